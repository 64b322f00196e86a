-- How a search is answered, by what the code knows of it. Assumes nothing: these are definitions.
use Rattle.std.specs.Prelude.{Option, Some, None, ℕ, Bool, cond, not, ◌&&◌, ◌||◌, eqb, ltb}
use Rattle.model.specs.declared.Limits.{Limits}
use Rattle.model.specs.declared.Reply.{Reply}
use Rattle.model.specs.declared.Reply.TheVariants.{Bad, Unsupported, BadCharset, TooLarge, Accepted}
use Rattle.read_search.specs.declared.Sources.{Sources}
use Rattle.read_search.specs.declared.Asked.{Asked}

-- `has_selected` says whether a mailbox is selected
abbrev pub refused_by : Bool → Sources → Bool
refused_by has_selected s = s.delayed || (not has_selected && (eqb s.count 0 || s.selected))

abbrev pub too_many_sources : Limits → Sources → Bool
too_many_sources l s = ltb l.groups s.count || ltb l.names s.names

abbrev pub too_many_keys_by : Limits → Asked → Bool
too_many_keys_by l a = (ltb l.keys a.keys || ltb l.depth a.depth) || ltb l.parts a.parts

-- the lines are tried in their order
abbrev pub reply_by_asked : Limits → Bool → Asked → Reply
reply_by_asked l has_selected a =
    cond (refused_by has_selected a.sources) Bad
    (cond a.unsupported Unsupported
    (cond a.unknown BadCharset
    (cond (too_many_sources l a.sources || too_many_keys_by l a) TooLarge Accepted)))

-- the same for a search as it was read
abbrev pub reply_by_read : Limits → Bool → Option (Asked × ℕ) → Reply
reply_by_read l has_selected None = Bad
reply_by_read l has_selected (Some (a, p)) = reply_by_asked l has_selected a

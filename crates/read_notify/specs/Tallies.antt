-- What the groups of NOTIFY come to: counts and faults, and the reply by them alone. Assumes nothing: these are definitions.
use Rattle.std.specs.Prelude.{Bool, true, false, cond, not, ◌||◌, ◌&&◌, List, map, ℕ, ◌+◌, ◌<◌, ltb, length}
use Rattle.model.specs.Lists.{anyb, filterb}
use Rattle.model.specs.Text.{one}
use Rattle.model.specs.Requests.{Filter, Asked}
use Rattle.model.specs.Limits.{name_count}
use Rattle.model.specs.Reading.{Parsed, bad, ok}
use Rattle.model.specs.Replies.{selected_group, misplaced_event, misplaced_attributes, unpaired, unsupported_event, asks_unsupported}
use Rattle.model.specs.declared.Limits.{Limits}
use Rattle.model.specs.declared.Reply.{Reply}
use Rattle.model.specs.declared.Reply.TheVariants.{Bad as BadReply, BadEvent, Unsupported, TooLarge, Accepted}
use Rattle.read_filters.specs.declared.Scope.{Scope}
use Rattle.read_filters.specs.declared.Scope.TheVariants.{Selected, Delayed, Inboxes, Personal, Subscribed, Subtree, SubtreeOne, Mailboxes}
use Rattle.read_events.specs.declared.Events.{Events}
use Rattle.read_notify.specs.declared.Tally.{Tally}

-- ---- groups
abbrev pub filters_of : List Asked → List Filter
filters_of gs = map (λ (g : Asked). g.filter) gs

-- counts, a fault of line 1 in one group, an event of line 2, an attribute of line 3
abbrev pub tally_of : List Asked → Tally
tally_of gs = record {
  groups = length gs;
  names = name_count (filters_of gs);
  selected = length (filterb selected_group gs);
  amiss = (anyb misplaced_event gs || anyb misplaced_attributes gs) || anyb unpaired gs;
  badevent = anyb (λ (g : Asked). anyb unsupported_event g.events) gs;
  unsupported = anyb (λ (g : Asked). anyb asks_unsupported g.events) gs;
}

-- no group
abbrev pub no_tally : Tally
no_tally = record { groups = 0; names = 0; selected = 0; amiss = false; badevent = false; unsupported = false }

abbrev pub read_tally : Parsed (List Asked) → Parsed Tally
read_tally bad = bad
read_tally (ok p gs) = ok p (tally_of gs)

-- ---- one group, from what the code has of it
abbrev pub about_selected : Scope → Bool
about_selected Selected = true
about_selected Delayed = true
about_selected Inboxes = false
about_selected Personal = false
about_selected Subscribed = false
about_selected Subtree = false
about_selected SubtreeOne = false
about_selected Mailboxes = false

abbrev pub asks_messages : Events → Bool
asks_messages e = (e.new || e.expunge) || (e.flag || e.annotation)

abbrev pub asks_others : Events → Bool
asks_others e = e.name || (e.subscription || e.other)

abbrev pub unpaired_by : Events → Bool
unpaired_by e = asks_messages e && not (e.new && e.expunge)

abbrev pub misplaced_by : Bool → Events → Bool
misplaced_by selected e = cond selected (asks_others e) e.listed

abbrev pub amiss_by : Bool → Events → Bool
amiss_by selected e = misplaced_by selected e || unpaired_by e

abbrev pub tally_by : Scope → ℕ → Events → Tally
tally_by scope names e = record {
  groups = 1;
  names = names;
  selected = one (about_selected scope);
  amiss = amiss_by (about_selected scope) e;
  badevent = e.annotation || e.other;
  unsupported = e.attributes.other;
}

-- ---- two tallies together
abbrev pub add : Tally → Tally → Tally
add a b = record {
  groups = a.groups + b.groups;
  names = a.names + b.names;
  selected = a.selected + b.selected;
  amiss = a.amiss || b.amiss;
  badevent = a.badevent || b.badevent;
  unsupported = a.unsupported || b.unsupported;
}

-- the sums are numbers of 64 bits
pub record Room (a b : Tally) : Type 0 where
  pub groups : a.groups + b.groups < 18446744073709551616
  pub names : a.names + b.names < 18446744073709551616
  pub selected : a.selected + b.selected < 18446744073709551616

-- ---- the reply: lines 1, 2, 3 and 5 in their order; line 4 is for searches alone
abbrev pub reply_by_tally : Limits → Tally → Reply
reply_by_tally l t =
    cond (ltb 1 t.selected || t.amiss) BadReply
    (cond t.badevent BadEvent
    (cond t.unsupported Unsupported
    (cond (ltb l.groups t.groups || ltb l.names t.names) TooLarge Accepted)))

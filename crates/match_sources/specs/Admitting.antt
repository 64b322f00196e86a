-- A source by its scope and the names that are kept, and that it admits what the definition's source admits. Assumes nothing.
use Rattle.std.specs.Prelude.{◌≡◌, refl, Bool, false, ◌&&◌, ◌||◌, List, [], ◌∷◌, ◌++◌, map, ℕ, suc, ◌+◌, ◌-◌, ◌≤◌, length, take, drop, replicate}
use Rattle.std.proofs.Common.{ap, ap₂, sym, ◌∙◌, append_assoc, arith, drop-drop, take_at}
use Rattle.std.proofs.lemmas.List.{length-map, length-replicate}
use Rattle.std.proofs.lemmas.List.Edits.{sets-eq}
use Rattle.std.proofs.Math.Seq.{take-append_seam, drop-append-add}
use Rattle.model.specs.Lists.{anyb, same}
use Rattle.model.specs.Names.{Name, argument, subtree as beneath_or_same, subtree_one as one_level_or_same}
use Rattle.model.specs.Text.{bit}
use Rattle.model.specs.Requests.{Filter, selected, delayed, inboxes, personal, subscribed, subtree, subtree_one, mailboxes, names_of}
use Rattle.model.specs.Memory.{Memory, name_of, is_selected, may_read, no_name}
use Rattle.model.specs.Groups.{lent_name}
use Rattle.model.specs.Listing.{lend_name}
use Rattle.model.specs.Searching.{admits}
use Rattle.model.specs.declared.Mailbox.{Mailbox}
use Rattle.model.specs.declared.LentName.{LentName}
use Rattle.read_filters.specs.Scopes.{scope_for}
use Rattle.read_filters.specs.declared.Scope.{Scope}
use Rattle.read_filters.specs.declared.Scope.TheVariants.{Selected, Delayed, Inboxes, Personal, Subscribed, Subtree, SubtreeOne, Mailboxes}
use Rattle.read_sources.specs.Listing.{source_from, sources_from, all_names, nothing_listed, add_all}
use Rattle.read_sources.specs.declared.Source.{Source}
use Rattle.read_sources.specs.declared.Listed.{Listed}
use Rattle.read_sources.proofs.Folding.{listed_all}

-- ---- as the code answers
abbrev pub admits_by : Scope → ℕ → Bool → Bool → Bool
admits_by Selected a here named = here
admits_by Delayed a here named = false
admits_by Inboxes a here named = bit 4 a && (bit 0 a && (bit 1 a && bit 2 a))
admits_by Personal a here named = bit 4 a && (bit 0 a && bit 1 a)
admits_by Subscribed a here named = bit 4 a && bit 3 a
admits_by Subtree a here named = bit 4 a && (bit 0 a && named)
admits_by SubtreeOne a here named = bit 4 a && (bit 0 a && named)
admits_by Mailboxes a here named = named

-- a name takes another, by the scope
abbrev pub meant : Scope → Name → Name → Bool
meant Subtree t n = beneath_or_same t n
meant SubtreeOne t n = one_level_or_same t n
meant _ t n = same t n

-- one of the source's names takes it
abbrev pub named_in : List LentName → Name → Source → Bool
named_in names n s = anyb (λ (x : LentName). meant s.scope (lent_name x) n) (take s.count (drop s.first names))

abbrev pub admits_in : List LentName → ℕ → Name → Bool → Source → Bool
admits_in names a n here s = admits_by s.scope a here (named_in names n s)

abbrev pub searched_by : Listed → ℕ → Name → Bool → Bool
searched_by t a n here = bit 5 a && anyb (admits_in t.kept.names a n here) (take t.count t.sources)

-- ---- a name that is kept is the argument
name-kept : (a : List ℕ) → lent_name (lend_name a) ≡ argument a
name-kept a = take-append_seam (argument a) (replicate (64 - length (argument a)) 0)

names-kept : (p : Name → Bool) (ns : List (List ℕ)) → anyb (λ (x : LentName). p (lent_name x)) (map lend_name ns) ≡ anyb (λ (t : List ℕ). p (argument t)) ns
names-kept p [] = refl
names-kept p (a ∷ ns) = ap₂ (λ (n : Name) (b : Bool). p n || b) (name-kept a) (names-kept p ns)

-- ---- one source
module _ (m : Memory) (x : Mailbox) where
  abbrev named : Filter → Bool
  named f = anyb (λ (t : List ℕ). meant (scope_for f) (argument t) (name_of x)) (names_of f)

  admits_is : (f : Filter) → admits_by (scope_for f) x.attributes (is_selected m x.id) (named f) ≡ admits m x f
  admits_is selected = refl
  admits_is delayed = refl
  admits_is inboxes = refl
  admits_is personal = refl
  admits_is subscribed = refl
  admits_is (subtree n ns) = refl
  admits_is (subtree_one n ns) = refl
  admits_is (mailboxes n ns) = refl

  module _ (names : List LentName) where
    source_is : (k : ℕ) (f : Filter) (rest : List LentName) → drop k names ≡ map lend_name (names_of f) ++ rest → admits_in names x.attributes (name_of x) (is_selected m x.id) (source_from k f) ≡ admits m x f
    source_is k f rest e =
        ap (λ (l : List LentName). admits_by (scope_for f) x.attributes (is_selected m x.id) (anyb (λ (y : LentName). meant (scope_for f) (lent_name y) (name_of x)) l))
        (ap (take (length (names_of f))) e ∙ take_at (map lend_name (names_of f)) rest (length (names_of f)) (length-map (names_of f) lend_name))
        ∙ (ap (admits_by (scope_for f) x.attributes (is_selected m x.id)) (names-kept (λ (n : Name). meant (scope_for f) n (name_of x)) (names_of f))
        ∙ admits_is f)

    -- the names of the others stand behind those of the first
    behind : (k : ℕ) (ns : List (List ℕ)) (rest : List LentName) → drop k names ≡ map lend_name ns ++ rest → drop (k + length ns) names ≡ rest
    behind k ns rest e =
        sym (drop-drop (length ns) k names)
        ∙ (ap (drop (length ns)) e ∙ (ap (λ (n : ℕ). drop n (map lend_name ns ++ rest)) (let z = length-map ns lend_name in let y : length ns ≡ length (map lend_name ns) + 0 = omega arith in y) ∙ drop-append-add (map lend_name ns) rest 0))

    sources_are : (k : ℕ) (fs : List Filter) (rest : List LentName) → drop k names ≡ map lend_name (all_names fs) ++ rest → anyb (admits_in names x.attributes (name_of x) (is_selected m x.id)) (sources_from k fs) ≡ anyb (admits m x) fs
    sources_are k [] rest e = refl
    sources_are k (f ∷ fs) rest e =
        let d : drop k names ≡ map lend_name (names_of f) ++ (map lend_name (all_names fs) ++ rest) = e ∙ (ap (λ (l : List LentName). l ++ rest) (map_both (names_of f) (all_names fs)) ∙ append_assoc (map lend_name (names_of f)) (map lend_name (all_names fs)) rest) in
        ap₂ (λ (a b : Bool). a || b) (source_is k f (map lend_name (all_names fs) ++ rest) d) (sources_are (k + length (names_of f)) fs rest (behind k (names_of f) (map lend_name (all_names fs) ++ rest) d))
      where
        map_both : (a b : List (List ℕ)) → map lend_name (a ++ b) ≡ map lend_name a ++ map lend_name b
        map_both [] b = refl
        map_both (y ∷ a) b = ap (λ (l : List LentName). lend_name y ∷ l) (map_both a b)

-- no more sources, and no more names in all, than there is room for
pub record Few (fs : List Filter) : Type 0 where
  pub sources : length fs ≤ 8
  pub names : length (all_names fs) ≤ 16

sources_long : (k : ℕ) (fs : List Filter) → length (sources_from k fs) ≡ length fs
sources_long k [] = refl
sources_long k (f ∷ fs) = ap suc (sources_long (k + length (names_of f)) fs)

-- ---- all of them, as they are listed
module _ (fs : List Filter) (few : Few fs) where
  listed_names : (add_all nothing_listed fs).kept.names ≡ map lend_name (all_names fs) ++ drop (0 + length (map lend_name (all_names fs))) (replicate 16 no_name)
  listed_names =
      let w = few.names in
      let l = length-map (all_names fs) lend_name in
      let r = length-replicate 16 no_name in
      ap (λ (t : Listed). t.kept.names) (listed_all nothing_listed fs) ∙ sets-eq (map lend_name (all_names fs)) (replicate 16 no_name) 0 (omega arith)

  listed-sources : take (add_all nothing_listed fs).count (add_all nothing_listed fs).sources ≡ sources_from 0 fs
  listed-sources =
      let w = few.sources in
      let l = sources_long 0 fs in
      let zeros : List Source = replicate 8 (record { scope = Selected; first = 0; count = 0 }) in
      let r = length-replicate {A = Source} 8 (record { scope = Selected; first = 0; count = 0 }) in
      ap (λ (t : Listed). take t.count t.sources) (listed_all nothing_listed fs)
      ∙ (ap (take (0 + length fs)) (sets-eq (sources_from 0 fs) zeros 0 (omega arith))
      ∙ take_at (sources_from 0 fs) (drop (0 + length (sources_from 0 fs)) zeros) (0 + length fs) (omega arith))

  -- what the code answers is what the definition asks
  pub searched_is : (m : Memory) (x : Mailbox) → searched_by (add_all nothing_listed fs) x.attributes (name_of x) (is_selected m x.id) ≡ (may_read x && anyb (admits m x) fs)
  searched_is m x =
      ap (λ (b : Bool). bit 5 x.attributes && b)
      (ap (anyb (admits_in (add_all nothing_listed fs).kept.names x.attributes (name_of x) (is_selected m x.id))) listed-sources
      ∙ sources_are m x (add_all nothing_listed fs).kept.names 0 fs (drop (0 + length (map lend_name (all_names fs))) (replicate 16 no_name)) listed_names)

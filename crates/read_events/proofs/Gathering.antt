-- What a row of events asks for, joined event by event, is what its definition gathers. Assumes nothing.
use Rattle.std.proofs.Common.{◌≡◌, ℕ, zero, suc, ◌+◌, ◌-◌, ◌<◌, ◌≤◌, length, get_or, Some, Bool, true, false, ◌||◌, ltb, List, [], ◌∷◌, ◌++◌, append-nil, refl, sym, ap, ◌∙◌, arith}
use Rattle.std.proofs.Common.{eq-eqb, ne_eqb, lt-ltb, ltb-true, ltb-false}
use Rattle.std.proofs.lemmas.Bool.{false≢true}
use Rattle.model.specs.Lists.{anyb, concat_map, same}
use Rattle.model.specs.Text.{octets, same_word}
use Rattle.model.specs.Octets.{atom_octet}
use Rattle.model.specs.Requests.{Attribute, Event, message_new, message_expunge, flag_change, annotation_change, mailbox_name, subscription_change, other_event, attributes_of}
use Rattle.model.specs.Requests.{is_uid_attribute, is_flags_attribute, is_size_attribute}
use Rattle.model.specs.Replies.{unsupported_attribute}
use Rattle.model.specs.Reading.{Parsed, bad, ok, and_then, piece, word_at, Next as RowNext, another, over, neither, row_by, row_at, closing, next_at, list_at}
use Rattle.model.specs.Attributes.{attribute_at}
use Rattle.model.specs.NotifyGrammar.{event_by, event_at, events_at}
use Rattle.octets.specs.Joined.{ReadsOne, list_joined, joined_list, Full, full_row}
use Rattle.octets.specs.Classes.{Ends}
use Rattle.read_attributes.specs.Asked.{gather, both, read_attributes}
use Rattle.read_attributes.specs.declared.Attributes.{Attributes}
use Rattle.read_events.specs.declared.Events.{Events}
use Rattle.read_events.specs.Gathered.{gather_events, single, read_event, read_single, read_events, with_attributes, merge}

or_assoc : (x y z : Bool) → ((x || y) || z) ≡ (x || (y || z))
or_assoc true y z = refl
or_assoc false y z = refl

any_append : {A : Type 0} (f : A → Bool) (a b : List A) → (anyb f a || anyb f b) ≡ anyb f (a ++ b)
any_append f [] b = refl
any_append f (x ∷ a) b = or_assoc (f x) (anyb f a) (anyb f b) ∙ ap (λ (t : Bool). f x || t) (any_append f a b)

gather_append : (a b : List Attribute) → both (gather a) (gather b) ≡ gather (a ++ b)
gather_append a b = rw (any_append is_uid_attribute a b, any_append is_flags_attribute a b, any_append is_size_attribute a b, any_append unsupported_attribute a b)

merge-gathers : (e : Event) (es : List Event) → merge (single e) (gather_events es) ≡ gather_events (e ∷ es)
merge-gathers e es = rw (gather_append (attributes_of e) (concat_map attributes_of es))

or_none : (b : Bool) → (b || false) ≡ b
or_none true = refl
or_none false = refl

single-gathers : (e : Event) → single e ≡ gather_events (e ∷ [])
single-gathers (message_new l) = rw (append-nil l, or_none (ltb 0 (length l)))
single-gathers message_expunge = refl
single-gathers flag_change = refl
single-gathers annotation_change = refl
single-gathers mailbox_name = refl
single-gathers subscription_change = refl
single-gathers other_event = refl

pub list_gathers : (s : List ℕ) (p : ℕ) → list_joined (read_single s) merge s p ≡ read_events (list_at (event_at s) s p)
list_gathers s p = joined_list single gather_events merge single-gathers merge-gathers (event_at s) s p

-- ---- MessageNew and what stands behind it
new-read : (x : Parsed (List Attribute)) {a : Attributes} {q : ℕ} → Full x → Some (a, q) ≡ read_attributes x → Some (with_attributes a, q) ≡ read_event (and_then x (λ r l. ok r (message_new l)))
new-read bad f e = cc
new-read (ok p l) {a} {q} f e =
    let i : ◌≡◌ {A = Attributes × ℕ} (a, q) (gather l, p) = cc in
    ap (λ (x : Attributes × ℕ). Some (with_attributes x.0, x.1)) i ∙ rw f

pub new_list : (s : List ℕ) (p : ℕ) {a : Attributes} {q : ℕ} → get_or s p 0 ≡ 32 → get_or s (p + 1) 0 ≡ 40
    → Some (a, q) ≡ read_attributes (list_at (attribute_at s) s (p + 1)) → Some (with_attributes a, q) ≡ read_event (event_by (message_new []) s p)
new_list s p e f h =
    rw (eq-eqb (get_or s p 0) 32 e, eq-eqb (get_or s (p + 1) 0) 40 f)
    (new-read (row_at (length s) (attribute_at s) (next_at closing s) (p + 1 + 1)) (full_row (attribute_at s) (next_at closing s) (length s) (p + 1 + 1)) (rw (eq-eqb (get_or s (p + 1) 0) 40 f) at h))

-- ---- NONE
-- a word is not empty
pub none_inside : (s : List ℕ) (p q : ℕ) → same_word (piece s p q) (octets "NONE") ≡ true → p < q
unfolding same
none_inside s p q h = go (ltb p q) refl
  where
    empty : q ≤ p → same_word (piece s p q) (octets "NONE") ≡ false
    empty l = let z : q - p ≡ 0 = omega arith in rw z

    go : (t : Bool) → ltb p q ≡ t → p < q
    go true e = ltb-true p q e
    go false e = absurd (false≢true (sym (empty (ltb-false p q e)) ∙ h))

pub events_none : (s : List ℕ) (p : ℕ) {q : ℕ} {r : Events} → (get_or s p 0 ≡ 40 → ⊥) → word_at s p "NONE" ≡ true → Ends atom_octet s p q → r ≡ gather_events []
    → ReadsOne s p (read_events (events_at s p)) (Some (r, q))
unfolding events_at
events_none s p {q} e h f g =
    let i : p < q = none_inside s p q (rw f.exact h) in
    let w = f.within in
    record { exact = rw (ne_eqb (get_or s p 0) 40 e, h, f.exact, g); within = (omega arith, omega arith) }

-- What groups come to, one group at a time, over plain values. Assumes nothing.
use mathlib.Core.Path.{◌≡◌, refl, sym, ap, ◌∙◌}
use mathlib.Core.Bool.{Bool, true, false, cond, not, ◌||◌, ◌&&◌}
use mathlib.Core.List.{List, [], ◌∷◌, ◌++◌}
use Prim.Native.Nat.{ℕ, ◌+◌, ◌≤◌}
use native.Mathlib.Omega.{arith}
use lib.ListN.{length}
use Rattle.model.specs.Lists.{anyb, keep, filterb, concat_map}
use Rattle.model.specs.Laws.{or-false, or_assoc}
use Rattle.model.specs.Text.{one}
use Rattle.model.specs.Requests.{Filter, selected, delayed, inboxes, personal, subscribed, subtree, subtree_one, mailboxes, names_of, of_selected, Asked}
use Rattle.model.specs.Requests.{Event, message_new, message_expunge, flag_change, annotation_change, mailbox_name, subscription_change, other_event, is_new, is_expunge, is_flag_change, is_annotation_change, is_mailbox_name, is_subscription_change, is_other, attributes_of}
use Rattle.model.specs.Replies.{selected_group, message_event, misplaced_event, has_attributes, misplaced_attributes, unpaired, unsupported_event, unsupported_attribute, asks_unsupported}
use Rattle.read_filters.specs.Scopes.{scope_for}
use Rattle.read_events.specs.Gathered.{gather_events}
use Rattle.read_notify.specs.Tallies.{no_tally, tally_of, about_selected, asks_messages, asks_others, tally_by, add}
use Rattle.read_notify.specs.declared.Tally.{Tally}

-- ---- tests
or_swap : (a b c d : Bool) → ((a || b) || (c || d)) ≡ ((a || c) || (b || d))
or_swap true b c d = refl
or_swap false true true d = refl
or_swap false true false d = refl
or_swap false false c d = refl

module _ {A : Type 0} where
  -- a test that is one of two
  any_or : (p q r : A → Bool) → ((x : A) → p x ≡ (q x || r x)) → (l : List A) → anyb p l ≡ (anyb q l || anyb r l)
  any_or p q r h [] = refl
  any_or p q r h (x ∷ l) = rw (h x, any_or p q r h l) (or_swap (q x) (r x) (anyb q l) (anyb r l))

  any_append : (p : A → Bool) (l m : List A) → anyb p (l ++ m) ≡ (anyb p l || anyb p m)
  any_append p [] m = refl
  any_append p (x ∷ l) m = rw (any_append p l m) (or_assoc (p x) (anyb p l) (anyb p m))

module _ {A B : Type 0} where
  any-concat : (p : B → Bool) (f : A → List B) (l : List A) → anyb p (concat_map f l) ≡ anyb (λ (x : A). anyb p (f x)) l
  any-concat p f [] = refl
  any-concat p f (x ∷ l) = any_append p (f x) (concat_map f l) ∙ ap (λ b. anyb p (f x) || b) (any-concat p f l)

-- ---- the events of a group
is_another : (e : Event) → not (message_event e) ≡ (is_mailbox_name e || (is_subscription_change e || is_other e))
is_another (message_new l) = refl
is_another message_expunge = refl
is_another flag_change = refl
is_another annotation_change = refl
is_another mailbox_name = refl
is_another subscription_change = refl
is_another other_event = refl

module _ (es : List Event) where
  some_messages : asks_messages (gather_events es) ≡ anyb message_event es
  some_messages = sym (
      any_or message_event (λ (e : Event). is_new e || is_expunge e) (λ (e : Event). is_flag_change e || is_annotation_change e) (λ e. refl) es
      ∙ rw (any_or (λ (e : Event). is_new e || is_expunge e) is_new is_expunge (λ e. refl) es, any_or (λ (e : Event). is_flag_change e || is_annotation_change e) is_flag_change is_annotation_change (λ e. refl) es)
      )

  some_others : asks_others (gather_events es) ≡ anyb (λ (e : Event). not (message_event e)) es
  some_others = sym (
      any_or (λ (e : Event). not (message_event e)) is_mailbox_name (λ (e : Event). is_subscription_change e || is_other e) is_another es
      ∙ rw (any_or (λ (e : Event). is_subscription_change e || is_other e) is_subscription_change is_other (λ e. refl) es)
      )

  some_unsupported : (anyb is_annotation_change es || anyb is_other es) ≡ anyb unsupported_event es
  some_unsupported = sym (any_or unsupported_event is_annotation_change is_other (λ e. refl) es)

  some-asked : anyb unsupported_attribute (concat_map attributes_of es) ≡ anyb asks_unsupported es
  some-asked = any-concat unsupported_attribute attributes_of es

-- ---- one group
pub scope-selected : (f : Filter) → about_selected (scope_for f) ≡ of_selected f
scope-selected selected = refl
scope-selected delayed = refl
scope-selected inboxes = refl
scope-selected personal = refl
scope-selected subscribed = refl
scope-selected (subtree n ns) = refl
scope-selected (subtree_one n ns) = refl
scope-selected (mailboxes n ns) = refl

tally_eq : {g g' n n' s s' : ℕ} {a a' b b' u u' : Bool} → g ≡ g' → n ≡ n' → s ≡ s' → a ≡ a' → b ≡ b' → u ≡ u'
    → ◌≡◌ {A = Tally} (record { groups = g; names = n; selected = s; amiss = a; badevent = b; unsupported = u }) (record { groups = g'; names = n'; selected = s'; amiss = a'; badevent = b'; unsupported = u' })
tally_eq p q r x y z = cc

-- of a group that is or is not about the selected mailbox
amiss_one : (b o l u : Bool) → (cond b o l || u) ≡ ((((b && o) || false) || ((not b && l) || false)) || (u || false))
amiss_one true true l true = refl
amiss_one true true l false = refl
amiss_one true false l true = refl
amiss_one true false l false = refl
amiss_one false o true u = refl
amiss_one false o false true = refl
amiss_one false o false false = refl

one_kept : {A : Type 0} (b : Bool) (x : A) (l : List A) → length (keep b x l) ≡ one b + length l
one_kept true x l = omega arith
one_kept false x l = omega arith

pub one_most : (b : Bool) → one b ≤ 1
one_most true = omega arith
one_most false = omega arith

pub tally_one : (f : Filter) (es : List Event) → tally_by (scope_for f) (length (names_of f)) (gather_events es) ≡ tally_of (record { filter = f; events = es } ∷ [])
tally_one f es = rw (scope-selected f, some_messages es, some_others es) (tally_eq
    refl
    (omega arith)
    (sym (one_kept (of_selected f) (record { filter = f; events = es }) [] ∙ omega arith))
    (amiss_one (of_selected f) (anyb (λ (e : Event). not (message_event e)) es) (anyb has_attributes es) (anyb message_event es && not (anyb is_new es && anyb is_expunge es)))
    (some_unsupported es ∙ sym (or-false (anyb unsupported_event es)))
    (some-asked es ∙ sym (or-false (anyb asks_unsupported es))))

-- ---- a group and those that follow it
amiss-more : (a b c x y z : Bool) → ((((a || false) || (b || false)) || (c || false)) || ((x || y) || z)) ≡ (((a || x) || (b || y)) || (c || z))
amiss-more true b c x y z = refl
amiss-more false true c true y z = refl
amiss-more false true c false y z = refl
amiss-more false false true true y z = refl
amiss-more false false true false true z = refl
amiss-more false false true false false z = refl
amiss-more false false false x y z = refl

pub tally-more : (g : Asked) (gs : List Asked) → add (tally_of (g ∷ [])) (tally_of gs) ≡ tally_of (g ∷ gs)
tally-more g gs = tally_eq
    (omega arith)
    (omega arith)
    (omega (arith, one_kept (selected_group g) g [], one_kept (selected_group g) g (filterb selected_group gs)))
    (amiss-more (misplaced_event g) (misplaced_attributes g) (unpaired g) (anyb misplaced_event gs) (anyb misplaced_attributes gs) (anyb unpaired gs))
    (ap (λ b. b || anyb (λ (h : Asked). anyb unsupported_event h.events) gs) (or-false (anyb unsupported_event g.events)))
    (ap (λ b. b || anyb (λ (h : Asked). anyb asks_unsupported h.events) gs) (or-false (anyb asks_unsupported g.events)))

-- ---- tallies put together
pub add_none : (t : Tally) → add no_tally t ≡ t
add_none t = tally_eq (omega arith) (omega arith) (omega arith) refl refl refl

right : (a b c : Bool) → ((a || b) || c) ≡ (a || (b || c))
right true b c = refl
right false b c = refl

pub add_right : (a b c : Tally) → add (add a b) c ≡ add a (add b c)
add_right a b c = tally_eq (omega arith) (omega arith) (omega arith) (right a.amiss b.amiss c.amiss) (right a.badevent b.badevent c.badevent) (right a.unsupported b.unsupported c.unsupported)

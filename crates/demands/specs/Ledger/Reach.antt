-- What lawful memory says of its messages: which are not of the selected mailbox, and that each lies below its UIDNEXT. Assumes nothing.
use Rattle.std.specs.Prelude.{◌≡◌, refl, List, [], ◌∷◌, Bool, true, false, ℕ, suc, eqb, leb, ltb, length}
use Rattle.std.proofs.Common.{sym, ◌∙◌, arith, leb-true, eqb-true, ne_eqb, lt-ltb, ltb-true}
use Rattle.std.proofs.lemmas.Bool.{eqb-false}
use Rattle.model.specs.Lists.{allb}
use Rattle.model.specs.Laws.{tf, and_l, and_r}
use Rattle.model.specs.Memory.{Memory, boxes, mails, known, place, the_mailbox, selected_box, is_selected, uid_of, is_message, in_mailbox}
use Rattle.model.specs.View.{view}
use Rattle.model.specs.Lawful.{mailbox_ok, owned}
use Rattle.demands.specs.Lasting.Law.{Law}
use Rattle.demands.specs.Lasting.Rows.{owned_next, told_next}
use Rattle.model.specs.declared.Mailbox.{Mailbox}
use Rattle.model.specs.declared.Message.{Message}
use Rattle.demands.specs.Ledger.Each.{All, all_yes, all_to, any_fact}
use Rattle.demands.specs.Ledger.Entries.{present}
use Rattle.demands.specs.Ledger.Effects.{Below}

-- ---- facts of lawful memory
row_some : (i : ℕ) (l : List Mailbox) → known i l ≡ true → allb mailbox_ok l ≡ true → leb 1 i ≡ true
unfolding place
row_some i [] h e = tf false h refl
row_some i (x ∷ l) h e = go (eqb x.id i) refl (row_some i l)
  where
    go : (c : Bool) → eqb x.id i ≡ c → (known i l ≡ true → allb mailbox_ok l ≡ true → leb 1 i ≡ true) → leb 1 i ≡ true
    go true g ih = rw (sym (eqb-true x.id i g)) (and_l (leb 1 x.id) _ (and_l (mailbox_ok x) _ e))
    go false g ih = ih (lt-ltb (place i l) (length l) (let z = ltb-true (suc (place i l)) (suc (length l)) (rw g at h) in omega arith)) (and_r (mailbox_ok x) _ e)

-- a known mailbox that is not the selected one
pub not_selected : (m : Memory) → Law m → (i : ℕ) → known i (boxes m) ≡ true → is_selected m i ≡ false → eqb m.session.selected i ≡ false
not_selected m k i h n =
    let p = leb-true 1 i (row_some i (boxes m) h k.box) in
    let z : eqb i 0 ≡ false = ne_eqb i 0 (λ e. let b : ⊥ = omega (arith, e, p) in b) in
    let s : eqb i m.session.selected ≡ false = rw z at n in
    ne_eqb m.session.selected i (λ e. eqb-false i m.session.selected s (sym e))

pub not_of : (s i : ℕ) → eqb s i ≡ false → (u : ℕ) (e : Message) → is_message s u e ≡ true → in_mailbox i e ≡ false
not_of s i h u e k = ne_eqb e.mailbox i (λ z. eqb-false s i h (sym (eqb-true e.mailbox s (and_l (eqb e.mailbox s) _ k)) ∙ z))

-- a fact of those that are the message
present_fact : (P : Type 0) (s u : ℕ) {es : List Message} → All (λ (e : Message). is_message s u e ≡ true → P) es → present s u es ≡ true → P
unfolding present
present_fact P s u h p = any_fact P (is_message s u) h p

pub reached : (m : Memory) → Law m → (i u : ℕ) → present i u (mails m) ≡ true → ltb u (the_mailbox i (boxes m)).uidnext ≡ true
reached m k i u h = present_fact (ltb u (the_mailbox i (boxes m)).uidnext ≡ true) i u (all_to below (all_yes (owned (boxes m)) (mails m) k.owners)) h
  where
    below : (e : Message) → owned (boxes m) e ≡ true → is_message i u e ≡ true → ltb u (the_mailbox i (boxes m)).uidnext ≡ true
    below e o g =
        let a : e.mailbox ≡ i = eqb-true e.mailbox i (and_l (eqb e.mailbox i) _ g) in
        let b : uid_of e ≡ u = eqb-true (uid_of e) u (and_r (eqb e.mailbox i) _ g) in
        let c : ltb (uid_of e) (the_mailbox e.mailbox (boxes m)).uidnext ≡ true = owned_next (boxes m) e o in
        rw (a, b) at c

pub below : (m : Memory) → Law m → Below m
below m k = record {
  reach = λ u h. reached m k m.session.selected u h;
  wide = λ u h. let a = ltb-true u m.session.told h in let t = told_next (boxes m) k.box m.session k.view in lt-ltb u (selected_box m).uidnext (omega arith);
}

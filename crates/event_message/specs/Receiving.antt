-- `ME` with all that code finds by itself: is it announced at once, who is told, what a FETCH of it shows. Assumes nothing.
use Rattle.std.specs.Prelude.{◌≡◌, refl, Bool, true, false, cond, ◌&&◌, List, ℕ, ◌+◌, ◌≤◌, eqb, leb}
use Rattle.std.proofs.Common.{sym, ◌∙◌, arith, eqb-true, leb-true}
use Rattle.std.proofs.Math.Bool.{not}
use Rattle.std.proofs.lemmas.Bool.{not-true}
use Rattle.model.specs.Laws.{and_l, and_r}
use Rattle.model.specs.Memory.{Memory, boxes, known, the_mailbox, both_rights, is_selected, with_next}
use Rattle.model.specs.Groups.{asked_of, selected_asks}
use Rattle.model.specs.Events.{message}
use Rattle.demands.specs.Lasting.Law.{Law}
use Rattle.model.specs.declared.Mailbox.{Mailbox}
use Rattle.model.specs.declared.Message.{Message}
use Rattle.model.specs.declared.Session.{Session}
use Rattle.match_groups.specs.Asking.{asks_bit}
use Rattle.line_fetch.specs.declared.Shows.{Shows}
use Rattle.event_message.specs.After.{After, arrive_after}
use Rattle.event_message.specs.Deciding.{is_chosen, asks_some}
use Rattle.event_message.specs.Shown.{shows_of}

-- what `ME` leaves
unfoldable pub receive_after : List Message → ℕ → List ℕ → Session → ℕ → Mailbox → ℕ → ℕ → ℕ → ℕ → After
receive_after es used q s at x u f z c =
    arrive_after es used q s at (with_next x (u + 1)) (message x.id u f z c)
    (is_chosen s x && (both_rights x && selected_asks s (asks_bit 0)))
    (not (is_chosen s x) && (both_rights x && asked_of s x (asks_bit 0)))
    (shows_of s)

-- the client was told of no UID that is still to come
pub told_low : (m : Memory) → Law m → (i u : ℕ) → (the_mailbox i (boxes m)).uidnext ≤ u → is_selected m i ≡ true → m.session.told ≤ u
told_low m law i u h sel = go (eqb i 0) refl (not-true (eqb i 0) (and_l (not (eqb i 0)) (eqb i m.session.selected) sel)) (rw (sym its) at law.view)
  where
    its : i ≡ m.session.selected
    its = eqb-true i m.session.selected (and_r (not (eqb i 0)) (eqb i m.session.selected) sel)

    go : (b : Bool) → eqb i 0 ≡ b → b ≡ false → cond (eqb i 0) (eqb m.session.told 0) (known i (boxes m) && leb m.session.told (the_mailbox i (boxes m)).uidnext) ≡ true → m.session.told ≤ u
    go b e f v =
        let w : (known i (boxes m) && leb m.session.told (the_mailbox i (boxes m)).uidnext) ≡ true = rw (e ∙ f) at v in
        let l = leb-true m.session.told (the_mailbox i (boxes m)).uidnext (and_r (known i (boxes m)) (leb m.session.told (the_mailbox i (boxes m)).uidnext) w) in
        omega arith

-- ---- as the code puts it together
pub soon_some : (s : Session) (soon c b : Bool) → soon ≡ (c && (b && selected_asks s (asks_bit 0))) → soon ≡ true → s.groupcount ≡ 0 → ⊥
soon_some s soon c b e h = asks_some s _ (and_r b (selected_asks s (asks_bit 0)) (and_r c (b && selected_asks s (asks_bit 0)) (sym e ∙ h)))

module _ (es : List Message) (used : ℕ) (q : List ℕ) (s : Session) (at : ℕ) (x : Mailbox) (u f z c : ℕ) where
  pub receive_as : (next : ℕ) (e : Message) (b a o : Bool) (w : Shows) → next ≡ u + 1 → e ≡ message x.id u f z c → b ≡ is_chosen s x → a ≡ (b && (both_rights x && selected_asks s (asks_bit 0)))
      → o ≡ (not b && (both_rights x && asked_of s x (asks_bit 0))) → w ≡ shows_of s → arrive_after es used q s at (with_next x next) e a o w ≡ receive_after es used q s at x u f z c
  unfolding receive_after
  receive_as next e b a o w n p i j l y = rw (j, l) (rw (n, p, i, y))

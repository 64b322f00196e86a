-- One taken call about a message: its mailbox has the record's counter before the event is told, and the account owes the same by the row before and after. Assumes nothing.
use Rattle.std.specs.Prelude.{◌≡◌, refl, List, true, ◌&&◌, ℕ, suc, ◌<◌, leb, length, set}
use Rattle.std.proofs.Common.{sym, ◌∙◌, ap, ap₂, subst, set-set}
use Rattle.std.proofs.Math.Bool.{false}
use Rattle.std.proofs.Math.Dec.{ltb}
use Rattle.model.specs.Text.{bit}
use Rattle.model.specs.Records.{Record, arrive, expunge, reflag}
use Rattle.model.specs.Memory.{Memory, boxes, mails, known, place, the_mailbox, selected_box, both_rights, with_counter}
use Rattle.model.specs.Lines.{Line}
use Rattle.model.specs.Events.{arrived, removed, reflagged, silence}
use Rattle.model.specs.Refusals.{absent, stale}
use Rattle.model.specs.Rules.{Outcome, raised, event_outcome}
use Rattle.model.specs.Lawful.{counter_ok}
use Rattle.model.specs.declared.Mailbox.{Mailbox}
use Rattle.model.specs.Fates.{Fate, is_silent}
use Rattle.model.specs.Seen.{apparent}
use Rattle.model.specs.Due.{Account, Due, due}
use Rattle.model.specs.Account.{due_lines, own, own_fate, owed_now}
use Rattle.demands.specs.Isolation.Erase.{box_id}
use Rattle.demands.specs.Lasting.Law.{Law}
use Rattle.demands.specs.Lasting.Rows.{place_set, keep-set}
use Rattle.demands.specs.Lasting.Raised.{raised-boxes, raised_row, raised-known, raised_next, raised_reaches}
use Rattle.demands.specs.Lasting.Kinds.{raised_law, arrived_law}
use Rattle.demands.specs.Ledger.Books.{Books}
use Rattle.demands.specs.Ledger.Steps.{page, same_books, Fair, Step}
use Rattle.demands.specs.Ledger.Flags.{reflagged-step}
use Rattle.demands.specs.Ledger.Expunges.{removed-step}
use Rattle.demands.specs.Ledger.Arrivals.{arrived-step}

module _ (m : Memory) (i c : ℕ) (kn : known i (boxes m) ≡ true) where
  abbrev n : Memory
  n = raised m i c

  abbrev row : Mailbox
  row = with_counter (the_mailbox i (boxes m)) c

  -- ---- the rows: each is where it was, and has the rights that it had
  raised-place : (o : ℕ) → place o (boxes n) ≡ place o (boxes m)
  raised-place o = ap (place o) (raised-boxes m i c kn) ∙ place_set i row (box_id i (boxes m) kn) o (boxes m)

  pub put_again : (y : Mailbox) → set (boxes n) (place i (boxes n)) y ≡ set (boxes m) (place i (boxes m)) y
  put_again y = ap₂ (λ (l : List Mailbox) (p : ℕ). set l p y) (raised-boxes m i c kn) (raised-place i) ∙ set-set (boxes m) (place i (boxes m)) row y

  raised_attributes : (the_mailbox m.session.selected (boxes n)).attributes ≡ (the_mailbox m.session.selected (boxes m)).attributes
  raised_attributes = ap (λ (l : List Mailbox). (the_mailbox m.session.selected l).attributes) (raised-boxes m i c kn)
      ∙ keep-set i row (box_id i (boxes m) kn) (λ (x : Mailbox). x.attributes) m.session.selected (boxes m) kn refl

  raised-rights : both_rights (selected_box n) ≡ both_rights (selected_box m)
  raised-rights = ap (λ (b : ℕ). bit 4 b && bit 5 b) raised_attributes

  -- it has the record's counter already
  has : with_counter (the_mailbox i (boxes n)) c ≡ the_mailbox i (boxes n)
  has = ap (λ (x : Mailbox). with_counter x c) (raised_row m i c kn) ∙ sym (raised_row m i c kn)

  -- ---- the account owes the same
  module _ (a : Account) where
    abbrev SameDue : Record → Type 0
    SameDue r = (due (apparent n) a r ≡ due (apparent m) a r) × (due (silence (apparent n)) a r ≡ due (silence (apparent m)) a r)

    due-arrive : (u f z : ℕ) → SameDue (arrive i u f z c)
    unfolding due
    due-arrive u f z = (rw (raised_row m i c kn, raised-rights), rw (raised_row m i c kn, raised-rights))

    due-expunge : (u : ℕ) → SameDue (expunge i u c)
    unfolding due
    due-expunge u = (rw (raised_row m i c kn, raised-rights), rw (raised_row m i c kn, raised-rights))

    due-reflag : (u f : ℕ) → SameDue (reflag i u f c)
    unfolding due
    due-reflag u f = (rw (raised_row m i c kn, raised-rights), rw (raised_row m i c kn, raised-rights))

    -- so a step from the raised row is one from the row before
    lowered : (r : Record) (x : Outcome) → SameDue r → ((w : Memory) (ls : List Line) → owed_now w a r ls ≡ due_lines w (due w a r)) → Step n a r x → Step m a r x
    lowered r x e o s = record {
      exact = s.exact ∙ (o (apparent n) x.lines ∙ (ap (due_lines (apparent m)) e.0 ∙ sym (o (apparent m) x.lines)));
      whole = λ h. ((s.whole h).0 ∙ ap (due_lines (apparent m)) e.0, subst (λ (d : Due). Fair d) e.0 (s.whole h).1);
      books = subst (λ (f : Fate). Books x.after (page (apparent m) a r x.lines f)) fate s.books;
      heard = sym (ap is_silent fate) ∙ s.heard;
    }
      where
        fate : own_fate (apparent n) a r x.lines ≡ own_fate (apparent m) a r x.lines
        fate = ap₂ (λ (d h : Due). own (suc (length a.fates)) d h x.lines) e.0 e.1

-- ---- the three records
module _ (m : Memory) (k : Law m) (a : Account) (b : Books m a) (i c : ℕ) (kn : known i (boxes m) ≡ true) (ok : counter_ok c ≡ true) (above : stale m i c ≡ false) where
  law : Law (raised m i c)
  law = raised_law m k i kn c ok above

  books : Books (raised m i c) a
  books = same_books m (raised m i c) a refl refl refl b

  pub mail-arrived : (u f z : ℕ) → leb 1 u ≡ true → leb f 31 ≡ true → leb z 4294967295 ≡ true → ltb u (the_mailbox i (boxes m)).uidnext ≡ false → length (mails m) < length m.entries
      → Step m a (arrive i u f z c) (event_outcome (raised m i c) (λ (x : Memory). arrived x i u f z c))
  unfolding owed_now
  mail-arrived u f z p q r fresh free =
      let n = raised m i c in
      let y = raised-known m i c kn in
      let v : ltb u (the_mailbox i (boxes (raised m i c))).uidnext ≡ false = rw (raised_next m i c kn) fresh in
      lowered m i c kn a (arrive i u f z c) _ (due-arrive m i c kn a u f z) (λ w ls. refl)
      (arrived-step n law a books i u f z c y (arrived_law n law i y u f z c p q r ok v (raised_reaches m i c kn) free).law v (has m i c kn))

  pub mail-removed : (u : ℕ) → absent m i u ≡ false → Step m a (expunge i u c) (event_outcome (raised m i c) (λ (x : Memory). removed x i u))
  unfolding owed_now
  mail-removed u h = lowered m i c kn a (expunge i u c) _ (due-expunge m i c kn a u) (λ w ls. refl) (removed-step (raised m i c) law a books i u c (raised-known m i c kn) h (has m i c kn))

  pub mail-reflagged : (u f : ℕ) → absent m i u ≡ false → Step m a (reflag i u f c) (event_outcome (raised m i c) (λ (x : Memory). reflagged x i u f c))
  unfolding owed_now
  mail-reflagged u f h = lowered m i c kn a (reflag i u f c) _ (due-reflag m i c kn a u f) (λ w ls. refl) (reflagged-step (raised m i c) law a books i u f c h (has m i c kn))

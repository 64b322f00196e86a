-- What every kind of record needs to say that it comes to what the rules say. Assumes nothing.
use Rattle.std.specs.Prelude.{◌≡◌, refl, Bool, true, false, List, ℕ, ◌<◌, ◌≤◌, ltb, length, get_or, Option, Some, None, Ok, Err}
use Rattle.std.proofs.Common.{ap, sym, ◌∙◌, leb-true, ltb-true, ltb-false}
use Rattle.std.proofs.lemmas.List.{get_or_past}
use Rattle.std.specs.Option.{ok_or}
use Rattle.std.specs.Result.{IsErrAnd}
use Rattle.model.specs.Records.{is_record, record_of}
use Rattle.model.specs.Memory.{Memory, boxes, no_mailbox, place, known, the_mailbox}
use Rattle.model.specs.Lawful.{lawful}
use Rattle.model.specs.Rules.{Outcome}
use Rattle.model.specs.Call.{refuse, call}
use Rattle.model.specs.declared.Mailbox.{Mailbox}
use Rattle.model.specs.declared.Counts.{Counts}
use Rattle.model.specs.declared.Session.{Session}
use Rattle.model.specs.declared.Refusal.{Refusal}
use Rattle.model.specs.declared.Refusal.TheVariants.{UnlawfulMemory, BadRecord}
use Rattle.demands.specs.Lasting.Law.{Law}
use Rattle.table_messages.specs.Laid.{laid, laid_own}
use Rattle.table_mailboxes.specs.Walks.{row_at_lem}
use Rattle.table_mailboxes.specs.Rows.{boxes_long}
use Rattle.record_outcome.specs.Coming.{Lends, Placed, Found, row_of, Comes, Came, ladder}
use Rattle.record_outcome.specs.declared.Place.{Place}

-- ---- a call, rung by rung
module _ (m : Memory) (o : List ℕ) where
  pub call_unlawful : lawful m ≡ false → refuse m UnlawfulMemory ≡ call m o
  unfolding call
  call_unlawful e = rw e

  pub call-bad : lawful m ≡ true → is_record o ≡ false → refuse m BadRecord ≡ call m o
  unfolding call
  call-bad e f = rw (e, f)

  pub call_ladder : lawful m ≡ true → is_record o ≡ true → ladder m (record_of o) ≡ call m o
  unfolding call
  call_ladder e f = rw (e, f)

-- ---- a refusal
module _ (m : Memory) (ws : List ℕ) (k : Counts) (s : Session) (q : List ℕ) (lent : Lends m ws k s q) where
  pub comes-refused : (why : Refusal) (o : Outcome) (r : Came) → refuse m why ≡ o → r ≡ Err why → Comes m o r ws ws q
  comes-refused why o r e f =
      rw (← e) (rw f (record {
        answer = refl;
        rows = refl;
        words = laid_own ws ∙ ap (laid ws) (sym lent.entries);
        counts = refl;
        session = refl;
        queue = sym lent.queue;
      }))

-- ---- a mailbox at its place
module _ (m : Memory) (law : Law m) (i k : ℕ) (x : Mailbox) (w : Placed m i k x) where
  fit : m.counts.mailboxes ≤ length m.rows
  fit = leb-true _ _ law.used

  -- it is known exactly if the place is that of a used row
  pub placed-known : (b : Bool) → known i (boxes m) ≡ b → ltb k m.counts.mailboxes ≡ b
  placed-known b e = ap (λ (j : ℕ). ltb j m.counts.mailboxes) w.at ∙ (ap (ltb (place i (boxes m))) (sym (boxes_long m fit)) ∙ e)

  pub placed_row : k < m.counts.mailboxes → x ≡ get_or m.rows k no_mailbox
  placed_row h = w.is ∙ row_at_lem i m.rows m.counts.mailboxes k fit w.at no_mailbox h

-- ---- what was found of a mailbox
module _ (m : Memory) (i : ℕ) {o : Option Place} (w : Found m i o) where
  pub not-known : o ≡ None → known i (boxes m) ≡ false
  not-known e = rw e at w

  module _ {p : Place} (e : o ≡ Some p) where
    some : Found m i (Some p)
    some = rw e at w

    pub is_known : known i (boxes m) ≡ true
    is_known = some.0

    pub is_placed : Placed m i p.at p.row
    is_placed = some.1

    pub is_within : Law m → p.at < m.counts.mailboxes
    is_within law = ltb-true p.at m.counts.mailboxes (placed-known m law i p.at p.row is_placed true is_known)

    pub is_row : Law m → p.row ≡ get_or m.rows p.at no_mailbox
    is_row law = placed_row m law i p.at p.row is_placed (is_within law)

-- the refusal of what was not found, as `ok_or` and `?` give it
pub none_refused : {A : Type 0} {o : Option A} {e why : Refusal} (r : Came) → o ≡ None → Err e ≡ ok_or o why → IsErrAnd r (λ (j : Refusal). j ≡ e) → r ≡ Err why
none_refused {A} {o} {e} {why} (Err x) h d t =
    let f = d ∙ ap (λ (p : Option A). ok_or p why) h in
    let g : e ≡ why = cc in
    ap (λ (j : Refusal). Err j) (t ∙ g)
none_refused (Ok x) h d t = absurd t

pub row_is : (m : Memory) (i : ℕ) (o : Option Place) → Found m i o → row_of o ≡ the_mailbox i (boxes m)
row_is m i (Some p) w = w.1.is
row_is m i None w = sym (get_or_past (boxes m) (place i (boxes m)) no_mailbox (ltb-false (place i (boxes m)) (length (boxes m)) w))

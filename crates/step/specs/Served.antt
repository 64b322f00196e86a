-- The step's contract on the arrays that it is given, and what its parts need. Assumes nothing.
use Rattle.std.specs.Prelude.{◌≡◌, refl, Bool, true, false, List, ℕ, ◌/◌, ◌≤◌, leb, length, take, replicate, Option, Some, Err}
use Rattle.std.proofs.Common.{ap, sym, ◌∙◌, arith, length-take-le, take_all, take-take, subst, leb-true, leb-false}
use Rattle.std.proofs.lemmas.List.{length-replicate}
use Rattle.model.specs.Records.{is_record, record_of}
use Rattle.model.specs.Memory.{Memory, boxes, no_mailbox}
use Rattle.model.specs.Lawful.{lawful}
use Rattle.model.specs.Call.{call}
use Rattle.model.specs.declared.Mailbox.{Mailbox}
use Rattle.model.specs.declared.Counts.{Counts}
use Rattle.model.specs.declared.Session.{Session}
use Rattle.model.specs.declared.Refusal.TheVariants.{UnlawfulMemory, BadRecord}
use Rattle.demands.specs.Lasting.Law.{Law, law_out}
use Rattle.table_messages.specs.Words.{messages, messages-count}
use Rattle.lawful.specs.Lent.{Lent as Rows, memory}
use Rattle.lent_rows.specs.Standing.{Stands}
use Rattle.laws.specs.Room.{law-room}
use Rattle.table_mailboxes.specs.declared.Columns.{Columns}
use Rattle.record_read.specs.Reading.{Reads}
use Rattle.record_read.specs.declared.Received.{Received}
use Rattle.record_outcome.specs.Coming.{Came, Lends, Ready, Comes, answer_of, rows_after, counts_after, session_after, ladder}
use Rattle.record_outcome.specs.Laws.{call_unlawful, call-bad, call_ladder, comes-refused}
use Rattle.step.specs.Steps.{Lent, Steps}

-- ---- what the reader says: a record
pub is_of : (o : List ℕ) {a : Option Received} (r : Received) → a ≡ Some r → Reads o a → is_record o ≡ true
is_of o r e h = let w : Reads o (Some r) = rw e at h in w.says.is

-- ---- the step
abbrev pub lent_as : List Mailbox → List ℕ → Counts → Session → List ℕ → Lent
lent_as t ws k s q = record { table = t; words = ws; counts = k; session = s; queue = q }

-- the step, for every table t of `lent` rows of which those that can be read are in `rows`
abbrev pub Stepped : List Mailbox → ℕ → List ℕ → Counts → Session → List ℕ → List ℕ → Came → List ℕ → List ℕ → Type 0
Stepped rows lent ws k s q o r ws' q' =
    (t : List Mailbox) → Rows t rows lent
    → Steps (lent_as t ws k s q) o (answer_of r) (lent_as (rows_after r k.mailboxes t) ws' (counts_after r k) (session_after r s) q')

-- the columns have the used rows of `rows`, of which a table of `lent` rows can be lent
pub record Seen (rows : List Mailbox) (lent : ℕ) (k : Counts) (c : Columns) : Type 0 where
  pub lends : (t : List Mailbox) × Rows t rows lent
  pub stands : Stands (take k.mailboxes rows) c

pub comes_steps : (t : List Mailbox) (ws : List ℕ) (k : Counts) (s : Session) (q o : List ℕ) (r : Came) (ws' q' : List ℕ)
    → Comes (memory t (messages ws) k s q) (call (memory t (messages ws) k s q) o) r ws ws' q'
    → Steps (lent_as t ws k s q) o (answer_of r) (lent_as (rows_after r k.mailboxes t) ws' (counts_after r k) (session_after r s) q')
comes_steps t ws k s q o r ws' q' c = record {
  answer = c.answer;
  table = c.rows;
  words = c.words;
  counts = c.counts;
  session = c.session;
  queue = c.queue;
}

-- ---- a table that is lent as the code has it, whatever its length
some-rows : (rows : List Mailbox) (lent : ℕ) → length rows ≡ 64 → (t : List Mailbox) × Rows t rows lent
some-rows rows lent e = go (leb lent 64) refl
  where
    go : (b : Bool) → leb lent 64 ≡ b → (t : List Mailbox) × Rows t rows lent
    go true h = let z = leb-true lent 64 h in (take lent rows, record { long = length-take-le lent rows (omega arith); read = λ k. refl })
    go false h = let z = leb-false lent 64 h in (replicate lent no_mailbox, record { long = length-replicate lent no_mailbox; read = λ k. absurd (let w : ⊥ = omega arith in w) })

-- an array's rows, by columns
pub seen_whole : (rows : List Mailbox) (lent : ℕ) {k : Counts} {c : Columns} → length rows ≡ 64 → Stands (take k.mailboxes (take 64 rows)) c → Seen rows lent k c
seen_whole rows lent {k} {c} e stands = record {
  lends = some-rows rows lent e;
  stands = subst (λ (l : List Mailbox). Stands (take k.mailboxes l) c) (take_all 64 rows (omega arith)) stands;
}

module _ (rows : List Mailbox) (lent : ℕ) (ws : List ℕ) (k : Counts) (s : Session) (q : List ℕ) where
  abbrev mem : List Mailbox → Memory
  mem t = memory t (messages ws) k s q

  lends : (t : List Mailbox) → Lends (mem t) ws k s q
  lends t = record { entries = refl; counts = refl; session = refl; queue = refl }

  -- lawful memory is ready
  pub law_ready : (t : List Mailbox) × Rows t rows lent → ((t : List Mailbox) → Rows t rows lent → lawful (mem t) ≡ true) → Ready ws k s q × (length ws / 6 ≤ 1024)
  law_ready w h =
      let law = law_out (mem w.0) (h w.0 w.1) in
      let a : length w.0 ≤ 64 = leb-true _ _ law.rows in
      let b : k.mailboxes ≤ length w.0 = leb-true _ _ law.used in
      let c : length (messages ws) ≤ 1024 = leb-true _ _ law.entries in
      let d : k.messages ≤ length (messages ws) = leb-true _ _ law.taken in
      let n = messages-count ws in
      (record { room = law-room (mem w.0) law; rows = omega arith; messages = omega arith; words = omega arith }, omega arith)

  module _ (o : List ℕ) (r : Came) where
    pub steps_unlawful : ((t : List Mailbox) → Rows t rows lent → false ≡ lawful (mem t)) → r ≡ Err UnlawfulMemory → Stepped rows lent ws k s q o r ws q
    steps_unlawful h e = λ t w. comes_steps t ws k s q o r ws q (comes-refused (mem t) ws k s q (lends t) UnlawfulMemory (call (mem t) o) r (call_unlawful (mem t) o (sym (h t w))) e)

    pub steps-bad : ((t : List Mailbox) → Rows t rows lent → true ≡ lawful (mem t)) → is_record o ≡ false → r ≡ Err BadRecord → Stepped rows lent ws k s q o r ws q
    steps-bad h b e = λ t w. comes_steps t ws k s q o r ws q (comes-refused (mem t) ws k s q (lends t) BadRecord (call (mem t) o) r (call-bad (mem t) o (sym (h t w)) b) e)

    -- the used rows of a lent table are those of the array
    pub used-rows : (t : List Mailbox) → Rows t rows lent → Law (mem t) → boxes (mem t) ≡ take k.mailboxes rows
    used-rows t w law =
        let a : length t ≤ 64 = leb-true _ _ law.rows in
        let b : k.mailboxes ≤ length t = leb-true _ _ law.used in
        let l = w.long in
        ap (take k.mailboxes) (w.read (omega arith)) ∙ take-take k.mailboxes lent rows (omega arith)

    module _ {cols : Columns} {ws' q' : List ℕ} (stands : Stands (take k.mailboxes rows) cols) where
      pub steps_served : ((t : List Mailbox) → Rows t rows lent → true ≡ lawful (mem t)) → is_record o ≡ true
          → ((m : Memory) → Lends m ws k s q → Law m → length m.rows ≡ lent → Stands (boxes m) cols → Comes m (ladder m (record_of o)) r ws ws' q')
          → Stepped rows lent ws k s q o r ws' q'
      steps_served h b f = λ t w.
          let law = law_out (mem t) (sym (h t w)) in
          let u = used-rows t w law in
          comes_steps t ws k s q o r ws' q' (rw (← call_ladder (mem t) o (sym (h t w)) b) (f (mem t) (lends t) law w.long (rw u stands)))

-- What a stream's run writes and leaves, a record at a time. Assumes nothing.
use Rattle.std.specs.Prelude.{◌≡◌, refl, List, [], ◌∷◌, ◌++◌, ℕ, zero, suc, ◌+◌, ◌*◌, ◌-◌, ◌<◌, ◌≤◌, length, take, drop, replicate}
use Rattle.std.proofs.Common.{ap, ap₂, sym, ◌∙◌, append-nil, arith, ne_eqb, length-take, length-drop, drop_of_length-le, take_all, drop-drop}
use Rattle.model.specs.Memory.{Memory, held, filled, no_mailbox, no_message}
use Rattle.model.specs.Queue.{written, shifted}
use Rattle.model.specs.Answers.{number_of}
use Rattle.model.specs.Call.{call}
use Rattle.model.specs.Hidden.{no_counts, no_session}
use Rattle.model.specs.Pushrun.{start, records_of, refusal_text, printed, pushrun}
use Rattle.model.specs.declared.Mailbox.{Mailbox}
use Rattle.model.specs.declared.Message.{Message}
use Rattle.model.specs.declared.Counts.{Counts}
use Rattle.model.specs.declared.Session.{Session}
use Rattle.model.specs.declared.Answer.{Answer}
use Rattle.lawful.specs.Lent.{Lent as Rows}
use Rattle.table_messages.specs.Words.{messages}
use Rattle.line_put.specs.Put.{Put, ◌then◌, put_as, put_none, put_wrote, Goes, goes_on}
use Rattle.line_put.specs.Decimals.{decimal-small}
use Rattle.record_outcome.specs.Coming.{Came, answer_of, rows_after, counts_after, session_after}
use Rattle.step.specs.Steps.{memory_of, Steps, after_is}
use Rattle.step.specs.Served.{Stepped, lent_as}
use Rattle.step_stream.specs.Applying.{rows_few}
use Rattle.step_stream.specs.Cutting.{first_size, Cuts, shown, emptied, printed_first, printed_none}

-- the memory of a run's variables
abbrev pub standing : List Mailbox → Counts → Session → List ℕ → List ℕ → Memory
standing t k s ws q = memory_of (lent_as t ws k s q)

-- a record was served on m: a is its answer, and m' is what it leaves
pub record Serves (m : Memory) (o : List ℕ) (a : Answer) (m' : Memory) : Type 0 where
  pub answer : a ≡ (call m o).answer
  pub after : m' ≡ (call m o).after

-- a record was served on m: what it shows is written from `at` on, and the queue is emptied
pub record Turns (m : Memory) (o : List ℕ) (q : List ℕ) (at : ℕ) (m' : Memory) (q' : List ℕ) (r : ℕ) : Type 0 where
  pub text : Put q at (length q) (shown m o) q' r
  pub left : m' ≡ emptied (call m o).after
  pub near : r ≤ at + 8197

-- ---- writes
-- one after the other, each up to the end of what is lent
pub puts : {q q' q'' t u : List ℕ} {at m r : ℕ} → Put q at (length q) t q' m → Put q' m (length q') u q'' r → Put q at (length q) (t ++ u) q'' r
puts a b = ◌then◌ a (rw a.same at b)

-- a refusal's number is one digit
pub refusal-text : (n : ℕ) → 0 < n → n < 10 → 33 ∷ 32 ∷ (48 + n) ∷ 13 ∷ 10 ∷ [] ≡ refusal_text n
refusal-text n h k = rw (ne_eqb n 0 (λ (e : n ≡ 0). let z : ⊥ = omega arith in z), decimal-small n k)

-- ---- the queue is emptied
shifted_all : (q : List ℕ) (f : ℕ) → q ≡ shifted q f f
unfolding shifted
shifted_all q f =
    let z = length-take f q in
    let e : f - f ≡ 0 = omega arith in
    sym (ap₂ (λ (a : List ℕ) (k : ℕ). a ++ drop k q) (drop_of_length-le (take f q) {i = f} (omega arith)) e)

-- draining all of it leaves its octets as they are
emptied_is : (m : Memory) → record { rows = m.rows; entries = m.entries; counts = record { mailboxes = m.counts.mailboxes; messages = m.counts.messages; filled = 0 }; session = m.session; queue = m.queue } ≡ emptied m
emptied_is m =
    let e : 0 ≡ filled m - filled m = omega arith in
    ap₂ (λ (f : ℕ) (q : List ℕ). record { rows = m.rows; entries = m.entries; counts = record { mailboxes = m.counts.mailboxes; messages = m.counts.messages; filled = f }; session = m.session; queue = q })
    e (shifted_all m.queue (filled m))

-- ---- a record
module _ (t : List Mailbox) (w : length t ≡ 64) (ws : List ℕ) (k : Counts) (s : Session) (q o : List ℕ) (r : Came) (ws' q' : List ℕ) (h : Stepped t 64 ws k s q o r ws' q') where
  whole : Rows t t 64
  whole = record { long = w; read = λ _. sym (take_all 64 t (omega arith)) }

  took : Steps (lent_as t ws k s q) o (answer_of r) (lent_as (rows_after r k.mailboxes t) ws' (counts_after r k) (session_after r s) q')
  took = h t whole

  -- the table does not grow
  table_few : length (rows_after r k.mailboxes t) ≤ 64
  table_few = rw took.table (rows_few (standing t k s ws q) o (omega arith))

  -- what is left of the table is what the step says
  pub serves : {u : List Mailbox} {a : Answer} {j : Counts} {v : Session} → (length (rows_after r k.mailboxes t) ≤ 64 → u ≡ rows_after r k.mailboxes t) → a ≡ answer_of r → j ≡ counts_after r k → v ≡ session_after r s
      → Serves (standing t k s ws q) o a (standing u j v ws' q')
  serves {u} {a} {j} {v} e f g i = record {
    answer = f ∙ took.answer;
    after = ap (λ (x : List Mailbox). standing x j v ws' q') (e table_few) ∙ (ap₂ (λ (y : Counts) (z : Session). standing (rows_after r k.mailboxes t) y z ws' q') g i ∙ after_is _ o (answer_of r) _ took);
  }

-- the refusal, what the queue holds, and what is left
pub turns : (m : Memory) (o : List ℕ) (a : Answer) (t : List Mailbox) (k : Counts) (s : Session) (ws q : List ℕ) → Serves m o a (standing t k s ws q)
    → {p p₁ p₂ : List ℕ} {at mid end : ℕ} (u : List Mailbox) (j : Counts) (v : Session) (n : ℕ) → u ≡ t → j ≡ record { mailboxes = k.mailboxes; messages = k.messages; filled = 0 } → v ≡ s → n ≡ end
    → Put p at (length p) (refusal_text (number_of a)) p₁ mid → Put p₁ mid (length p₁) (take k.filled q) p₂ end → end ≤ at + 8197
    → Turns m o p at (standing u j v ws q) p₂ n
turns m o a t k s ws q h u j v n e f g i x y l = record {
  text = rw i (put_as (puts x y) (ap₂ (λ (b : Answer) (w : Memory). refusal_text (number_of b) ++ held w) h.answer h.after));
  left = rw g (ap₂ (λ (b : List Mailbox) (c : Counts). standing b c s ws q) e f) ∙ (emptied_is (standing t k s ws q) ∙ ap emptied h.after);
  near = rw i l;
}

-- ---- the stream
-- where a run stands: what is still to be written is what its memory prints for the rest of the stream
pub record Running (stream all q₀ q : List ℕ) (at : ℕ) (m : Memory) (i : ℕ) : Type 0 where
  pub goes : Goes q₀ 0 (length q₀) all q at (printed m (records_of (drop i stream)))
  pub same : length q ≡ length q₀
  pub within : i ≤ length stream
  pub near : at ≤ 8197 * i

pub running_start : (stream q ws p : List ℕ) {t t₀ : List Mailbox} {k k₀ : Counts} {s s₀ : Session} {at : ℕ} → t ≡ t₀ → k ≡ k₀ → s ≡ s₀ → at ≡ 0
    → Running stream (printed (standing t₀ k₀ s₀ ws p) (records_of stream)) q q at (standing t k s ws p) 0
running_start stream q ws p e f g h = rw (e, f, g, h) (record { goes = λ q'' r z. z; same = refl; within = omega arith; near = omega arith })

module _ {stream all q₀ q : List ℕ} {at : ℕ} {m : Memory} {i : ℕ} (g : Running stream all q₀ q at m i) where
  pub running_next : {m₁ : Memory} {q₁ : List ℕ} {o : ℕ} {n : ℕ} → Cuts stream i n → Turns m (take (i + n - i) (drop i stream)) q at m₁ q₁ o → Running stream all q₀ q₁ o m₁ (i + n)
  running_next {m₁} {q₁} {o} {n} y z =
      let d = length-drop i stream in
      let e = y.is in
      let y₀ = y.some in
      let y₁ = y.within in
      let k : 0 < length (drop i stream) = omega arith in
      let c : i + n - i ≡ n = omega arith in
      let p = z.text in
      let s = p.same in
      let b = z.near in
      let a = g.near in
      let f = g.same in
      let size = first_size (drop i stream) in
      let first : List ℕ = take size (drop i stream) in
      let u : take (i + n - i) (drop i stream) ≡ first = ap (λ (j : ℕ). take j (drop i stream)) (c ∙ e) in
      let t : Put q at (length q₀) (shown m first) q₁ o = put_as (rw f at p) (ap (shown m) u) in
      let left : m₁ ≡ emptied (call m first).after = z.left ∙ ap (λ (o : List ℕ). emptied (call m o).after) u in
      let rest : drop size (drop i stream) ≡ drop (i + n) stream = drop-drop size i stream ∙ ap (λ (j : ℕ). drop (i + j) stream) (sym e) in
      let moved : Goes q₀ 0 (length q₀) all q₁ o (printed m₁ (records_of (drop (i + n) stream))) =
      rw (left, ← rest) (goes_on (rw (printed_first m (drop i stream) k) at g.goes) t) in
      record { goes = moved; same = s ∙ f; within = omega arith; near = omega arith }

  pub running_end : length stream ≤ i → Put q₀ 0 (length q₀) all q at
  running_end h = let d = length-drop i stream in let f = g.same in g.goes q at (put_as (put_none q at (length q₀) (omega arith)) (printed_none m (drop i stream) (omega arith)))

-- ---- the start
-- words of zeros are entries of zeros
zeros : (n k : ℕ) → k ≡ n * 6 → messages (replicate k 0) ≡ replicate n no_message
unfolding messages
zeros zero k e = rw e
zeros (suc n) zero e = absurd (let z : ⊥ = omega arith in z)
zeros (suc n) (suc zero) e = absurd (let z : ⊥ = omega arith in z)
zeros (suc n) (suc (suc zero)) e = absurd (let z : ⊥ = omega arith in z)
zeros (suc n) (suc (suc (suc zero))) e = absurd (let z : ⊥ = omega arith in z)
zeros (suc n) (suc (suc (suc (suc zero)))) e = absurd (let z : ⊥ = omega arith in z)
zeros (suc n) (suc (suc (suc (suc (suc zero))))) e = absurd (let z : ⊥ = omega arith in z)
zeros (suc n) (suc (suc (suc (suc (suc (suc k)))))) e = ap (λ (l : List Message). no_message ∷ l) (zeros n k (omega arith))

pub start_memory : standing (replicate 64 no_mailbox) no_counts no_session (replicate 6144 0) (replicate 8192 0) ≡ start 8192 64 1024
start_memory =
    ap (λ (es : List Message). record { rows = replicate 64 no_mailbox; entries = es; counts = no_counts; session = no_session; queue = replicate 8192 0 }) (zeros 1024 6144 refl)

pub start_is : (s : List ℕ) → printed (standing (replicate 64 no_mailbox) no_counts no_session (replicate 6144 0) (replicate 8192 0)) (records_of s) ≡ pushrun s
start_is s = ap (λ (m : Memory). printed m (records_of s)) start_memory

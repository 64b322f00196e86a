-- The program `pushrun`: what it prints for a stream of records (01, Examples, 10).
use Rattle.std.specs.Prelude.{List, [], ◌∷◌, ◌++◌, cond, ◌&&◌, ℕ, zero, suc, ◌+◌, eqb, leb, length, take, drop, replicate}
use Rattle.model.specs.Text.{octets, decimal, little}
use Rattle.model.specs.Memory.{Memory, held, filled, no_mailbox, no_message}
use Rattle.model.specs.Lines.{crlf}
use Rattle.model.specs.Queue.{dequeue}
use Rattle.model.specs.Answers.{number_of}
use Rattle.model.specs.Call.{call}
use Rattle.model.specs.Hidden.{no_counts, no_session}

-- nothing there yet: a queue of q octets, tables of these lengths
abbrev pub start : ℕ → ℕ → ℕ → Memory
start q rows entries = record {
  rows = replicate rows no_mailbox;
  entries = replicate entries no_message;
  counts = no_counts;
  session = no_session;
  queue = replicate q 0;
}

-- a stream is cut by its length fields: a record is its four octets and as many as they say; what is torn at the end is one record more
unfoldable pub cut : ℕ → List ℕ → List (List ℕ)
cut zero s = []
cut (suc n) [] = []
cut (suc n) (x ∷ s) =
    let size = 4 + little 2 (drop 2 (x ∷ s)) in
    let rest = cut n (drop size (x ∷ s)) in
    cond (leb 4 (length (x ∷ s)) && leb size (length (x ∷ s))) (take size (x ∷ s) ∷ rest) ((x ∷ s) ∷ [])

-- no more records than octets
abbrev pub records_of : List ℕ → List (List ℕ)
records_of s = cut (length s) s

-- `! n` for a refusal
abbrev pub refusal_text : ℕ → List ℕ
refusal_text n = cond (eqb n 0) [] (octets "! " ++ (decimal n ++ crlf))

-- after each record the refusal, if it is one, and all that the queue holds, which is drained
unfoldable pub printed : Memory → List (List ℕ) → List ℕ
printed m [] = []
printed m (o ∷ os) =
    let after = (call m o).after in
    refusal_text (number_of (call m o).answer) ++ (held after ++ printed (dequeue after (filled after)) os)

-- the program: standard input in, standard output out
abbrev pub pushrun : List ℕ → List ℕ
pushrun s = printed (start 8192 64 1024) (records_of s)

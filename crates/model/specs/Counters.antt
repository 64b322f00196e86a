-- Change counters over streams, as statements: a mailbox's is the last that it was given and the highest, a message's that of its own last change (02, 1).
-- Assumes nothing.
use Rattle.std.specs.Prelude.{◌≡◌, List, [], ◌∷◌, true, cond, ◌&&◌, ℕ, max, eqb}
use Rattle.model.specs.Lists.{allb}
use Rattle.model.specs.Records.{Record, create, delete, rename, subscribe, grant, arrive, expunge, reflag, select, ended, command, drained, record_of_none}
use Rattle.model.specs.Memory.{Memory, boxes, mails, known, the_mailbox, counter_of, uid_of}
use Rattle.model.specs.Hidden.{Octets, no_counts}
use Rattle.model.specs.Seen.{Seen, history, final}
use Rattle.model.specs.declared.Message.{Message}

-- ---- a mailbox's
-- the counters that mailbox i was given, the last one first: those before the record are l. Each create begins anew, and a delete leaves none
abbrev pub given_by : ℕ → List ℕ → Record → List ℕ
given_by i l (create j a q v c n) = cond (eqb j i) (c ∷ []) l
given_by i l (delete j q) = cond (eqb j i) [] l
given_by i l (rename j q n) = l
given_by i l (subscribe j s q) = l
given_by i l (grant j r) = l
given_by i l (arrive j u f z c) = cond (eqb j i) (c ∷ l) l
given_by i l (expunge j u c) = cond (eqb j i) (c ∷ l) l
given_by i l (reflag j u f c) = cond (eqb j i) (c ∷ l) l
given_by i l (select j) = l
given_by i l (ended c) = l
given_by i l (command t) = l
given_by i l (drained n) = l
given_by i l record_of_none = l

-- by all calls of a history that were taken
abbrev pub given : ℕ → List ℕ → List Seen → List ℕ
given i l [] = l
given i l (s ∷ ss) = given i (cond s.taken (given_by i l s.said) l) ss

abbrev pub last : List ℕ → ℕ
last [] = 0
last (c ∷ l) = c

abbrev pub highest : List ℕ → ℕ
highest [] = 0
highest (c ∷ l) = max c (highest l)

-- after any stream from empty tables
abbrev pub CounterHighest : Type 0
CounterHighest = (m : Memory) → m.counts ≡ no_counts → (os : List Octets) (i : ℕ) → known i (boxes (final m os)) ≡ true
    → (counter_of (the_mailbox i (boxes (final m os))) ≡ last (given i [] (history m os)))
    × (counter_of (the_mailbox i (boxes (final m os))) ≡ highest (given i [] (history m os)))

-- ---- a message's
-- the counter of the last `ME` or `FL` about message u of mailbox i since the mailbox was made, 0 where there was none: before the record it is k
abbrev pub own_by : (i u : ℕ) → ℕ → Record → ℕ
own_by i u k (create j a q v c n) = cond (eqb j i) 0 k
own_by i u k (delete j q) = k
own_by i u k (rename j q n) = k
own_by i u k (subscribe j s q) = k
own_by i u k (grant j r) = k
own_by i u k (arrive j w f z c) = cond (eqb j i && eqb w u) c k
own_by i u k (expunge j w c) = k
own_by i u k (reflag j w f c) = cond (eqb j i && eqb w u) c k
own_by i u k (select j) = k
own_by i u k (ended c) = k
own_by i u k (command t) = k
own_by i u k (drained n) = k
own_by i u k record_of_none = k

abbrev pub own : (i u : ℕ) → ℕ → List Seen → ℕ
own i u k [] = k
own i u k (s ∷ ss) = own i u (cond s.taken (own_by i u k s.said) k) ss

-- so it is of every message, also of one that is expunged and kept
abbrev pub CounterOwn : Type 0
CounterOwn = (m : Memory) → m.counts ≡ no_counts → (os : List Octets)
    → allb (λ (e : Message). eqb e.counter (own e.mailbox (uid_of e) 0 (history m os))) (mails (final m os)) ≡ true

-- Two streams that differ in hidden records alone: what is computed of them, and that it meets the premises of demand 3
-- (01, Duties, 7 to 13). A test of every record would run both streams for each, so the ids are tested once.
use Rattle.std.specs.Prelude.{◌≡◌, refl, List, [], ◌∷◌, ◌++◌, map, Bool, true, false, not, ◌||◌, ℕ, eqb, drop}
use Rattle.std.proofs.Common.{sym, ◌∙◌, ap, eqb-true}
use Prim.Native.String.{String}
use Rattle.std.proofs.lemmas.Bool.{not-true}
use Rattle.model.specs.Lists.{filterb, anyb, allb}
use Rattle.model.specs.Laws.{tf, and_l, and_r}
use Rattle.model.specs.Records.{about}
use Rattle.model.specs.Memory.{Memory}
use Rattle.model.specs.Answers.{number_of}
use Rattle.model.specs.Call.{call}
use Rattle.model.specs.Hidden.{Octets, Called, calls, hidden, without, remaining, excepted, Unexcepted, observed, Starts}
use Rattle.model.specs.Pushrun.{start}
use Rattle.model.specs.Examples.Stream.{lines}

-- the size of the queue and of the two tables; two streams; the ids that are hidden in both, and all others that a record is about, 0 for none
pub record Pair : Type 0 where
  pub queue : ℕ
  pub rows : ℕ
  pub entries : ℕ
  pub left : List Octets
  pub right : List Octets
  pub gone : List ℕ
  pub kept : List ℕ

-- ---- what each record that remains shows, written down: its number, its counts, how many octets leave the queue, and the lines that come into it
pub record Said : Type 0 where
  pub number : ℕ
  pub counts : List ℕ
  pub drains : ℕ
  pub writes : List String

abbrev pub silent : Said
silent = record { number = 0; counts = []; drains = 0; writes = [] }

abbrev pub says : List String → Said
says ts = record { number = 0; counts = []; drains = 0; writes = ts }

abbrev pub refused : ℕ → Said
refused n = record { number = n; counts = []; drains = 0; writes = [] }

abbrev pub counted : ℕ → List String → Said
counted n ts = record { number = 0; counts = n ∷ []; drains = 0; writes = ts }

abbrev pub drained : ℕ → Said
drained n = record { number = 0; counts = []; drains = n; writes = [] }

-- the queue holds what those before left in it too
abbrev pub after : List ℕ → List Said → List (ℕ × List ℕ × List ℕ)
after held [] = []
after held (s ∷ l) =
    let now = drop s.drains held ++ lines s.writes in
    (s.number, s.counts, now) ∷ after now l

module _ (p : Pair) where
  -- both streams begin with nothing there
  abbrev pub empty : Memory
  empty = start p.queue p.rows p.entries

  pub starts : Starts empty empty
  starts = record { counts = refl; counts' = refl; session = refl; session' = refl; queue = refl; rows = refl; entries = refl }

  -- the hidden ids, by demand 3 and by the list
  abbrev pub is_hidden : ℕ → Bool
  is_hidden i = hidden empty empty p.left p.right i

  abbrev pub is_gone : ℕ → Bool
  is_gone i = anyb (eqb i) p.gone

  abbrev pub is_listed : ℕ → Bool
  is_listed i = is_gone i || anyb (eqb i) p.kept

  -- the calls that remain
  abbrev pub left_calls : (ℕ → Bool) → List Called
  left_calls H = remaining H (calls empty p.left)

  abbrev pub right_calls : (ℕ → Bool) → List Called
  right_calls H = remaining H (calls empty p.right)

  -- the numbers that the records of the left stream get that do not remain, 0 for those that are not refused
  abbrev pub dropped : (ℕ → Bool) → List ℕ
  dropped H = map (λ (c : Called). number_of c.answer) (filterb (λ (c : Called). H (about c.octets)) (calls empty p.left))

  -- the lists of ids are right, and no record is about another
  pub record Ids : Type 0 where
    pub gone : allb is_hidden p.gone ≡ true
    pub kept : allb (λ i. not (is_hidden i)) p.kept ≡ true
    pub left : allb (λ (o : Octets). is_listed (about o)) p.left ≡ true
    pub right : allb (λ (o : Octets). is_listed (about o)) p.right ≡ true

  -- the streams without the records about ids of H: they are the same; whether the left one has a refusal by 4 or 7, the right one has none;
  -- and what each shows
  pub record Compared (H : ℕ → Bool) (e : Bool) (v w : List Said) : Type 0 where
    pub hides : allb H p.gone ≡ true
    pub rest : without H p.left ≡ without H p.right
    pub excepts : anyb (λ (c : Called). excepted c.answer) (left_calls H) ≡ e
    pub unexcepts : Unexcepted (right_calls H)
    pub left : map observed (left_calls H) ≡ after [] v
    pub right : map observed (right_calls H) ≡ after [] w

  -- the premises of demand 3 hold, and both streams show this
  abbrev pub Alike : List Said → Type 0
  Alike v = Compared is_hidden false v v

  -- the left stream is refused by 4 or 7, which a premise of demand 3 rules out; they show this and that
  abbrev pub Excluded : List Said → List Said → Type 0
  Excluded v w = Compared is_hidden true v w

-- ---- the list of hidden ids stands for the test
-- what holds of all in a list holds of a number that is among them
among : (q : ℕ → Bool) (i : ℕ) (l : List ℕ) → allb q l ≡ true → anyb (eqb i) l ≡ true → q i ≡ true
among q i [] h e = tf false e refl
among q i (x ∷ l) h e = go (eqb i x) refl e (among q i l (and_r (q x) _ h))
  where
    go : (b : Bool) → eqb i x ≡ b → (b || anyb (eqb i) l) ≡ true → (anyb (eqb i) l ≡ true → q i ≡ true) → q i ≡ true
    go true f k ih = rw (eqb-true i x f) (and_l (q x) _ h)
    go false f k ih = ih k

module _ {A : Type 0} where
  -- two tests that agree where a third holds keep the same of a list on which it holds
  filter-agree : (r f g : A → Bool) → ((x : A) → r x ≡ true → f x ≡ g x) → (l : List A) → allb r l ≡ true → filterb f l ≡ filterb g l
  filter-agree r f g h [] e = refl
  filter-agree r f g h (x ∷ l) e = rw (h x (and_l (r x) _ e), filter-agree r f g h l (and_r (r x) _ e))

-- the octet strings of the calls are those of the stream
calls_all : (r : Octets → Bool) (m : Memory) (os : List Octets) → allb r os ≡ true → allb (λ (c : Called). r c.octets) (calls m os) ≡ true
calls_all r m [] e = refl
calls_all r m (o ∷ os) e = rw (and_l (r o) _ e) (calls_all r (call m o).after os (and_r (r o) _ e))

module _ (p : Pair) (d : Ids p) where
  agree : (i : ℕ) → is_listed p i ≡ true → is_hidden p i ≡ is_gone p i
  agree i e = go (is_gone p i) refl e
    where
      go : (b : Bool) → is_gone p i ≡ b → (b || anyb (eqb i) p.kept) ≡ true → is_hidden p i ≡ b
      go true f k = among (is_hidden p) i p.gone d.gone f
      go false f k = not-true (is_hidden p i) (among (λ j. not (is_hidden p j)) i p.kept d.kept k)

  without_same : (os : List Octets) → allb (λ (o : Octets). is_listed p (about o)) os ≡ true → without (is_hidden p) os ≡ without (is_gone p) os
  without_same os e = filter-agree (λ (o : Octets). is_listed p (about o)) _ _ (λ o k. ap not (agree (about o) k)) os e

  remaining_same : (os : List Octets) → allb (λ (o : Octets). is_listed p (about o)) os ≡ true → remaining (is_hidden p) (calls (empty p) os) ≡ remaining (is_gone p) (calls (empty p) os)
  remaining_same os e = filter-agree (λ (c : Called). is_listed p (about c.octets)) _ _ (λ c k. ap not (agree (about c.octets) k)) (calls (empty p) os) (calls_all _ (empty p) os e)

  pub dropped_same : dropped p (is_hidden p) ≡ dropped p (is_gone p)
  dropped_same = ap (map (λ (c : Called). number_of c.answer))
      (filter-agree (λ (c : Called). is_listed p (about c.octets)) _ _ (λ c k. agree (about c.octets) k) (calls (empty p) p.left) (calls_all _ (empty p) p.left d.left))

  -- what is computed with the list holds of the ids that demand 3 calls hidden
  pub by-ids : {e : Bool} {v w : List Said} → Compared p (is_gone p) e v w → Compared p (is_hidden p) e v w
  by-ids c = record {
    hides = d.gone;
    rest = without_same p.left d.left ∙ (c.rest ∙ sym (without_same p.right d.right));
    excepts = rw (remaining_same p.left d.left) c.excepts;
    unexcepts = rw (remaining_same p.right d.right) c.unexcepts;
    left = rw (remaining_same p.left d.left) c.left;
    right = rw (remaining_same p.right d.right) c.right;
  }

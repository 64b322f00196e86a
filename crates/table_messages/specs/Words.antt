-- The message table as one list of words, six to an entry: its whole entries. Assumes nothing.
use Rattle.std.specs.Prelude.{◌≡◌, refl, List, [], ◌∷◌, ℕ, zero, suc, ◌+◌, ◌*◌, ◌/◌, ◌<◌, ◌≤◌, length, map, take, get_or, set}
use Rattle.std.proofs.Common.{ap, ◌∙◌, arith, length-take-le}
use Rattle.std.specs.Simd.{first_chunks}
use Rattle.model.specs.declared.Message.{Message}
use Rattle.model.specs.Memory.{no_message}

abbrev pub row : ℕ → ℕ → ℕ → ℕ → ℕ → ℕ → Message
row o u f s k n = record { mailbox = o; uid = record { 0 = u }; flags = f; size = s; states = k; counter = n }

-- the words, six by six
unfoldable pub messages : List ℕ → List Message
messages [] = []
messages (o ∷ []) = []
messages (o ∷ u ∷ []) = []
messages (o ∷ u ∷ f ∷ []) = []
messages (o ∷ u ∷ f ∷ s ∷ []) = []
messages (o ∷ u ∷ f ∷ s ∷ k ∷ []) = []
messages (o ∷ u ∷ f ∷ s ∷ k ∷ n ∷ ws) = row o u f s k n ∷ messages ws

-- the entry of six words
abbrev pub of_row : List ℕ → Message
of_row r = row (get_or r 0 0) (get_or r 1 0) (get_or r 2 0) (get_or r 3 0) (get_or r 4 0) (get_or r 5 0)

-- the words of entry i start here
abbrev pub at : ℕ → ℕ
at zero = zero
at (suc i) = suc (suc (suc (suc (suc (suc (at i))))))

pub at_is : (i : ℕ) → at i ≡ i * 6
at_is zero = refl
at_is (suc i) = let h = at_is i in omega arith

pub messages-length : (n : ℕ) (ws : List ℕ) → n * 6 ≤ length ws → n ≤ length (messages ws)
unfolding messages
messages-length zero ws h = omega arith
messages-length (suc n) [] h = absurd (omega arith)
messages-length (suc n) (o ∷ []) h = absurd (omega arith)
messages-length (suc n) (o ∷ u ∷ []) h = absurd (omega arith)
messages-length (suc n) (o ∷ u ∷ f ∷ []) h = absurd (omega arith)
messages-length (suc n) (o ∷ u ∷ f ∷ s ∷ []) h = absurd (omega arith)
messages-length (suc n) (o ∷ u ∷ f ∷ s ∷ k ∷ []) h = absurd (omega arith)
messages-length (suc n) (o ∷ u ∷ f ∷ s ∷ k ∷ c ∷ ws) h = let r = messages-length n ws (omega arith) in omega arith

get : (i : ℕ) (ws : List ℕ) → at i + 5 < length ws
    → get_or (messages ws) i no_message
    ≡ row (get_or ws (at i) 0) (get_or ws (suc (at i)) 0) (get_or ws (suc (suc (at i))) 0) (get_or ws (suc (suc (suc (at i)))) 0) (get_or ws (suc (suc (suc (suc (at i))))) 0)
    (get_or ws (suc (suc (suc (suc (suc (at i)))))) 0)
unfolding messages
get i [] h = absurd (omega arith)
get i (o ∷ []) h = absurd (omega arith)
get i (o ∷ u ∷ []) h = absurd (omega arith)
get i (o ∷ u ∷ f ∷ []) h = absurd (omega arith)
get i (o ∷ u ∷ f ∷ s ∷ []) h = absurd (omega arith)
get i (o ∷ u ∷ f ∷ s ∷ k ∷ []) h = absurd (omega arith)
get zero (o ∷ u ∷ f ∷ s ∷ k ∷ n ∷ ws) h = refl
get (suc i) (o ∷ u ∷ f ∷ s ∷ k ∷ n ∷ ws) h = get i ws (omega arith)

put : (i : ℕ) (ws : List ℕ) (o u f s k n : ℕ)
    → messages
    (set (set (set (set (set (set ws (at i) o) (suc (at i)) u) (suc (suc (at i))) f) (suc (suc (suc (at i)))) s) (suc (suc (suc (suc (at i))))) k)
    (suc (suc (suc (suc (suc (at i)))))) n)
    ≡ set (messages ws) i (row o u f s k n)
unfolding messages
put zero [] o u f s k n = refl
put zero (a ∷ []) o u f s k n = refl
put zero (a ∷ b ∷ []) o u f s k n = refl
put zero (a ∷ b ∷ c ∷ []) o u f s k n = refl
put zero (a ∷ b ∷ c ∷ d ∷ []) o u f s k n = refl
put zero (a ∷ b ∷ c ∷ d ∷ e ∷ []) o u f s k n = refl
put zero (a ∷ b ∷ c ∷ d ∷ e ∷ g ∷ ws) o u f s k n = refl
put (suc i) [] o u f s k n = refl
put (suc i) (a ∷ []) o u f s k n = refl
put (suc i) (a ∷ b ∷ []) o u f s k n = refl
put (suc i) (a ∷ b ∷ c ∷ []) o u f s k n = refl
put (suc i) (a ∷ b ∷ c ∷ d ∷ []) o u f s k n = refl
put (suc i) (a ∷ b ∷ c ∷ d ∷ e ∷ []) o u f s k n = refl
put (suc i) (a ∷ b ∷ c ∷ d ∷ e ∷ g ∷ ws) o u f s k n = ap (λ (r : List Message). row a b c d e g ∷ r) (put i ws o u f s k n)

-- the same as the code counts
pub messages_get : (i : ℕ) (ws : List ℕ) → i * 6 + 5 < length ws
    → get_or (messages ws) i no_message ≡ row (get_or ws (i * 6) 0) (get_or ws (i * 6 + 1) 0) (get_or ws (i * 6 + 2) 0) (get_or ws (i * 6 + 3) 0) (get_or ws (i * 6 + 4) 0) (get_or ws (i * 6 + 5) 0)
messages_get i ws h =
    let e = at_is i in
    let e₁ : suc (at i) ≡ i * 6 + 1 = omega arith in
    let e₂ : suc (suc (at i)) ≡ i * 6 + 2 = omega arith in
    let e₃ : suc (suc (suc (at i))) ≡ i * 6 + 3 = omega arith in
    let e₄ : suc (suc (suc (suc (at i)))) ≡ i * 6 + 4 = omega arith in
    let e₅ : suc (suc (suc (suc (suc (at i))))) ≡ i * 6 + 5 = omega arith in
    rw (← e₅, ← e₄, ← e₃, ← e₂, ← e₁, ← e) (get i ws (omega arith))

-- the words with e put at place i: six of them change, and none moves
abbrev pub stored : List ℕ → ℕ → Message → List ℕ
stored ws i e = set (set (set (set (set (set ws (i * 6) e.mailbox) (i * 6 + 1) e.uid.0) (i * 6 + 2) e.flags) (i * 6 + 3) e.size) (i * 6 + 4) e.states) (i * 6 + 5) e.counter

-- entry i alone has changed
pub messages-stored : (ws : List ℕ) (i : ℕ) (m : Message) → messages (stored ws i m) ≡ set (messages ws) i m
messages-stored ws i m =
    let e = at_is i in
    let e₁ : suc (at i) ≡ i * 6 + 1 = omega arith in
    let e₂ : suc (suc (at i)) ≡ i * 6 + 2 = omega arith in
    let e₃ : suc (suc (suc (at i))) ≡ i * 6 + 3 = omega arith in
    let e₄ : suc (suc (suc (suc (at i)))) ≡ i * 6 + 4 = omega arith in
    let e₅ : suc (suc (suc (suc (suc (at i))))) ≡ i * 6 + 5 = omega arith in
    rw (← e₅, ← e₄, ← e₃, ← e₂, ← e₁, ← e) (put i ws m.mailbox m.uid.0 m.flags m.size m.states m.counter)

-- how many whole entries there are
pub messages-count : (ws : List ℕ) → length (messages ws) ≡ length ws / 6
unfolding messages
messages-count [] = refl
messages-count (o ∷ []) = refl
messages-count (o ∷ u ∷ []) = refl
messages-count (o ∷ u ∷ f ∷ []) = refl
messages-count (o ∷ u ∷ f ∷ s ∷ []) = refl
messages-count (o ∷ u ∷ f ∷ s ∷ k ∷ []) = refl
messages-count (o ∷ u ∷ f ∷ s ∷ k ∷ n ∷ ws) = let r = messages-count ws in omega arith

-- the words cut into sixes, as code goes along them
pub messages-rows : (ws : List ℕ) → map of_row (first_chunks 6 (length ws / 6) ws) ≡ messages ws
unfolding messages
messages-rows [] = refl
messages-rows (o ∷ []) = refl
messages-rows (o ∷ u ∷ []) = refl
messages-rows (o ∷ u ∷ f ∷ []) = refl
messages-rows (o ∷ u ∷ f ∷ s ∷ []) = refl
messages-rows (o ∷ u ∷ f ∷ s ∷ k ∷ []) = refl
messages-rows (o ∷ u ∷ f ∷ s ∷ k ∷ n ∷ ws) =
    let e : length (o ∷ u ∷ f ∷ s ∷ k ∷ n ∷ ws) / 6 ≡ suc (length ws / 6) = omega arith in
    ap (λ (j : ℕ). map of_row (first_chunks 6 j (o ∷ u ∷ f ∷ s ∷ k ∷ n ∷ ws))) e ∙ ap (λ (l : List Message). row o u f s k n ∷ l) (messages-rows ws)

-- the first n entries are those of the first 6 n words
front : (n : ℕ) (ws : List ℕ) → messages (take (at n) ws) ≡ take n (messages ws)
unfolding messages
front zero ws = refl
front (suc n) [] = refl
front (suc n) (o ∷ []) = refl
front (suc n) (o ∷ u ∷ []) = refl
front (suc n) (o ∷ u ∷ f ∷ []) = refl
front (suc n) (o ∷ u ∷ f ∷ s ∷ []) = refl
front (suc n) (o ∷ u ∷ f ∷ s ∷ k ∷ []) = refl
front (suc n) (o ∷ u ∷ f ∷ s ∷ k ∷ c ∷ ws) = ap (λ (l : List Message). row o u f s k c ∷ l) (front n ws)

pub messages-take : (n : ℕ) (ws : List ℕ) → messages (take (6 * n) ws) ≡ take n (messages ws)
messages-take n ws = let e = at_is n in let e' : at n ≡ 6 * n = omega arith in rw (← e') (front n ws)

pub messages-used : (n : ℕ) (ws : List ℕ) → n * 6 ≤ length ws → length (messages (take (6 * n) ws)) ≡ n
messages-used n ws h = ap length (messages-take n ws) ∙ length-take-le n (messages ws) (messages-length n ws h)

-- there is nothing past the last entry
pub past : (es : List Message) (i : ℕ) → length es ≤ i → get_or es i no_message ≡ no_message
past [] i h = refl
past (x ∷ es) zero h = absurd (let z : ⊥ = omega arith in z)
past (x ∷ es) (suc i) h = past es i (omega arith)

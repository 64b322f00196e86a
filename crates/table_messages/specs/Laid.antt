-- Words with other entries laid into them: the words behind the last whole entry stay as they were. Assumes nothing.
use Rattle.std.specs.Prelude.{◌≡◌, refl, List, [], ◌∷◌, ◌++◌, ℕ, zero, suc, ◌+◌, ◌*◌, ◌<◌, ◌≤◌, length, take, drop, set}
use Rattle.std.proofs.Common.{ap, ap₂, ◌∙◌, arith}
use Rattle.model.specs.declared.Message.{Message}
use Rattle.table_messages.specs.Words.{messages, at, at_is, stored, messages-stored}

-- the words of entries, six each
unfoldable pub flat : List Message → List ℕ
flat [] = []
flat (e ∷ es) = e.mailbox ∷ e.uid.0 ∷ e.flags ∷ e.size ∷ e.states ∷ e.counter ∷ flat es

-- the words behind the last whole entry
unfoldable pub behind : List ℕ → List ℕ
behind [] = []
behind (o ∷ []) = o ∷ []
behind (o ∷ u ∷ []) = o ∷ u ∷ []
behind (o ∷ u ∷ f ∷ []) = o ∷ u ∷ f ∷ []
behind (o ∷ u ∷ f ∷ s ∷ []) = o ∷ u ∷ f ∷ s ∷ []
behind (o ∷ u ∷ f ∷ s ∷ k ∷ []) = o ∷ u ∷ f ∷ s ∷ k ∷ []
behind (o ∷ u ∷ f ∷ s ∷ k ∷ n ∷ ws) = behind ws

-- these words, with es for their entries
unfoldable pub laid : List ℕ → List Message → List ℕ
laid ws es = flat es ++ behind ws

-- ---- every list of words is its entries laid into itself
own : (ws : List ℕ) → ws ≡ flat (messages ws) ++ behind ws
unfolding messages flat behind
own [] = refl
own (o ∷ []) = refl
own (o ∷ u ∷ []) = refl
own (o ∷ u ∷ f ∷ []) = refl
own (o ∷ u ∷ f ∷ s ∷ []) = refl
own (o ∷ u ∷ f ∷ s ∷ k ∷ []) = refl
own (o ∷ u ∷ f ∷ s ∷ k ∷ n ∷ ws) = ap (λ (l : List ℕ). o ∷ u ∷ f ∷ s ∷ k ∷ n ∷ l) (own ws)

-- what lies behind is no whole entry, and has nothing behind it but itself
no_entry : (ws : List ℕ) → messages (behind ws) ≡ []
unfolding messages behind
no_entry [] = refl
no_entry (o ∷ []) = refl
no_entry (o ∷ u ∷ []) = refl
no_entry (o ∷ u ∷ f ∷ []) = refl
no_entry (o ∷ u ∷ f ∷ s ∷ []) = refl
no_entry (o ∷ u ∷ f ∷ s ∷ k ∷ []) = refl
no_entry (o ∷ u ∷ f ∷ s ∷ k ∷ n ∷ ws) = no_entry ws

behind_twice : (ws : List ℕ) → behind (behind ws) ≡ behind ws
unfolding behind
behind_twice [] = refl
behind_twice (o ∷ []) = refl
behind_twice (o ∷ u ∷ []) = refl
behind_twice (o ∷ u ∷ f ∷ []) = refl
behind_twice (o ∷ u ∷ f ∷ s ∷ []) = refl
behind_twice (o ∷ u ∷ f ∷ s ∷ k ∷ []) = refl
behind_twice (o ∷ u ∷ f ∷ s ∷ k ∷ n ∷ ws) = behind_twice ws

entries_flat : (es : List Message) (ws : List ℕ) → messages ws ≡ [] → messages (flat es ++ ws) ≡ es
unfolding messages flat
entries_flat [] ws n = n
entries_flat (e ∷ es) ws n = ap (λ (l : List Message). e ∷ l) (entries_flat es ws n)

behind_flat : (es : List Message) (ws : List ℕ) → behind (flat es ++ ws) ≡ behind ws
unfolding behind flat
behind_flat [] ws = refl
behind_flat (e ∷ es) ws = behind_flat es ws

-- a store into a whole entry leaves what lies behind
behind-set : (i : ℕ) (ws : List ℕ) (o u f s k n : ℕ) → at i + 5 < length ws
    → behind
    (set (set (set (set (set (set ws (at i) o) (suc (at i)) u) (suc (suc (at i))) f) (suc (suc (suc (at i)))) s) (suc (suc (suc (suc (at i))))) k)
    (suc (suc (suc (suc (suc (at i)))))) n)
    ≡ behind ws
unfolding behind
behind-set i [] o u f s k n h = absurd (omega arith)
behind-set i (a ∷ []) o u f s k n h = absurd (omega arith)
behind-set i (a ∷ b ∷ []) o u f s k n h = absurd (omega arith)
behind-set i (a ∷ b ∷ c ∷ []) o u f s k n h = absurd (omega arith)
behind-set i (a ∷ b ∷ c ∷ d ∷ []) o u f s k n h = absurd (omega arith)
behind-set i (a ∷ b ∷ c ∷ d ∷ e ∷ []) o u f s k n h = absurd (omega arith)
behind-set zero (a ∷ b ∷ c ∷ d ∷ e ∷ g ∷ ws) o u f s k n h = refl
behind-set (suc i) (a ∷ b ∷ c ∷ d ∷ e ∷ g ∷ ws) o u f s k n h = behind-set i ws o u f s k n (omega arith)

behind-stored : (ws : List ℕ) (i : ℕ) (m : Message) → (i + 1) * 6 ≤ length ws → behind (stored ws i m) ≡ behind ws
behind-stored ws i m h =
    let e = at_is i in
    let e₁ : suc (at i) ≡ i * 6 + 1 = omega arith in
    let e₂ : suc (suc (at i)) ≡ i * 6 + 2 = omega arith in
    let e₃ : suc (suc (suc (at i))) ≡ i * 6 + 3 = omega arith in
    let e₄ : suc (suc (suc (suc (at i)))) ≡ i * 6 + 4 = omega arith in
    let e₅ : suc (suc (suc (suc (suc (at i))))) ≡ i * 6 + 5 = omega arith in
    rw (← e₅, ← e₄, ← e₃, ← e₂, ← e₁, ← e) (behind-set i ws m.mailbox m.uid.0 m.flags m.size m.states m.counter (omega arith))

-- ---- the first n entries' words, and the words behind them
pub flat_append : (ds es : List Message) (ws : List ℕ) → flat ds ++ (flat es ++ ws) ≡ flat (ds ++ es) ++ ws
unfolding flat
flat_append [] es ws = refl
flat_append (d ∷ ds) es ws = ap (λ (l : List ℕ). d.mailbox ∷ d.uid.0 ∷ d.flags ∷ d.size ∷ d.states ∷ d.counter ∷ l) (flat_append ds es ws)

front : (n : ℕ) (es : List Message) (ws : List ℕ) → n ≤ length es → take (at n) (flat es ++ ws) ≡ flat (take n es)
unfolding flat
front zero es ws h = refl
front (suc n) [] ws h = absurd (omega arith)
front (suc n) (e ∷ es) ws h = ap (λ (l : List ℕ). e.mailbox ∷ e.uid.0 ∷ e.flags ∷ e.size ∷ e.states ∷ e.counter ∷ l) (front n es ws (omega arith))

rest : (n : ℕ) (es : List Message) (ws : List ℕ) → n ≤ length es → drop (at n) (flat es ++ ws) ≡ flat (drop n es) ++ ws
unfolding flat
rest zero es ws h = refl
rest (suc n) [] ws h = absurd (omega arith)
rest (suc n) (e ∷ es) ws h = rest n es ws (omega arith)

pub flat-take : (n : ℕ) (es : List Message) (ws : List ℕ) → n ≤ length es → take (n * 6) (flat es ++ ws) ≡ flat (take n es)
flat-take n es ws h = rw (← at_is n) (front n es ws h)

pub flat-drop : (n : ℕ) (es : List Message) (ws : List ℕ) → n ≤ length es → drop (n * 6) (flat es ++ ws) ≡ flat (drop n es) ++ ws
flat-drop n es ws h = rw (← at_is n) (rest n es ws h)

-- ---- what code cites
-- nothing was changed
pub laid_own : (ws : List ℕ) → ws ≡ laid ws (messages ws)
unfolding laid
laid_own ws = own ws

-- the entries that were laid are there
pub messages_laid : (ws : List ℕ) (es : List Message) → messages (laid ws es) ≡ es
unfolding laid
messages_laid ws es = entries_flat es (behind ws) (no_entry ws)

pub laid-entries : (ws ws' : List ℕ) (es : List Message) → ws' ≡ laid ws es → messages ws' ≡ es
laid-entries ws ws' es e = ap messages e ∙ messages_laid ws es

-- other entries, and others again
pub laid_then : (ws ws' ws'' : List ℕ) (es fs : List Message) → ws' ≡ laid ws es → ws'' ≡ laid ws' fs → ws'' ≡ laid ws fs
unfolding laid
laid_then ws ws' ws'' es fs e f = f ∙ (ap (λ (l : List ℕ). flat fs ++ behind l) e ∙ ap (λ (l : List ℕ). flat fs ++ l) (behind_flat es (behind ws) ∙ behind_twice ws))

-- an entry is put
pub laid_put : (ws ws' : List ℕ) (es : List Message) (i : ℕ) (m : Message) → ws' ≡ laid ws es → (i + 1) * 6 ≤ length ws' → stored ws' i m ≡ laid ws (set es i m)
unfolding laid
laid_put ws ws' es i m e h =
    own (stored ws' i m)
    ∙ ap₂ (λ (l : List Message) (r : List ℕ). flat l ++ r)
    (messages-stored ws' i m ∙ ap (λ (l : List Message). set l i m) (laid-entries ws ws' es e))
    (behind-stored ws' i m h ∙ (ap behind e ∙ (behind_flat es (behind ws) ∙ behind_twice ws)))

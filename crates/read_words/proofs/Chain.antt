-- What the first word of a table that fits means, as a chain of tests like those of the definitions. Assumes nothing.
use Rattle.std.specs.Prelude.{◌≡◌, refl, Bool, true, false, cond, ◌||◌, Some, List, [], ◌∷◌, ℕ}
use Rattle.std.specs.Borrow.{Bor}
use Rattle.std.specs.Option.{option_map}
use Rattle.std.specs.List.{find}
use Rattle.model.specs.Text.{same_word}
use Rattle.model.specs.SearchGrammar.{Keyword, strange}
use Rattle.read_words.specs.Words.{named, meant, meaning}
use Rattle.read_words.specs.declared.Word.{Word}

abbrev pub chain : List ℕ → List (Bor (List ℕ) × Word) → Keyword
chain w [] = strange
chain w (k ∷ ks) = cond (same_word w k.0.now) (named k.1) (chain w ks)

pub chain_is : (w : List ℕ) (ks : List (Bor (List ℕ) × Word)) → meant (meaning w ks) ≡ chain w ks
chain_is w [] = refl
chain_is w (k ∷ ks) = go (same_word w k.0.now) (chain_is w ks)
  where
    go : (b : Bool) → meant (meaning w ks) ≡ chain w ks
        → meant (option_map (λ k. k.1) (cond b (Some k) (find (λ k. same_word w k.0.now) ks))) ≡ cond b (named k.1) (chain w ks)
    go true e = refl
    go false e = e

-- a word of several that are answered alike is asked for by itself
pub one_by_one : {A : Type 0} (a b : Bool) (x y : A) → cond (a || b) x y ≡ cond a x (cond b x y)
one_by_one true b x y = refl
one_by_one false b x y = refl

-- What a writer did: the text t is put from its place on, up to its limit, and the place is behind it. Assumes nothing.
use Rattle.std.specs.Prelude.{◌≡◌, List, [], ◌++◌, ℕ, ◌≤◌, length}
use Rattle.std.proofs.Common.{◌∙◌, refl, sym, subst}
use Rattle.line_put.specs.declared.Writer.{Writer}
use Rattle.line_put.specs.Put.{Put, put_none, ◌then◌ as followed}

pub record Writes (w : Writer) (t : List ℕ) (w' : Writer) : Type 0 where
  pub same : w'.queue.ghost_name ≡ w.queue.ghost_name
  pub limit : w'.limit ≡ w.limit
  pub put : Put w.queue.now w.at w.limit t w'.queue.now w'.at

-- nothing
pub writes_none : (w : Writer) → w.limit ≤ length w.queue.now → Writes w [] w
writes_none w h = record { same = refl; limit = refl; put = put_none w.queue.now w.at w.limit h }

-- one after the other
pub ◌then◌ : {w w' w'' : Writer} {t u : List ℕ} → Writes w t w' → Writes w' u w'' → Writes w (t ++ u) w''
◌then◌ {w} {w'} {w''} {t} {u} a b = record { same = b.same ∙ a.same; limit = b.limit ∙ a.limit; put = followed a.put (rw a.limit at b.put) }

-- the same text, said another way
pub writes_as : {w w' : Writer} {t u : List ℕ} → Writes w t w' → t ≡ u → Writes w u w'
writes_as {w} {w'} {t} {u} a e = subst (λ (s : List ℕ). Writes w s w') e a

-- a text that is empty
pub writes_nothing : {w : Writer} {t : List ℕ} → t ≡ [] → w.limit ≤ length w.queue.now → Writes w t w
writes_nothing {w} {t} e h = writes_as (writes_none w h) (sym e)

-- all that is to be written from w on; w' is what it came to, and the rest is left
abbrev pub Goes : Writer → List ℕ → Writer → List ℕ → Type 0
Goes w all w' rest = (w'' : Writer) → Writes w' rest w'' → Writes w all w''

pub goes_on : {w w' w₁ : Writer} {all t rest : List ℕ} → Goes w all w' (t ++ rest) → Writes w' t w₁ → Goes w all w₁ rest
goes_on g p w'' z = g w'' (◌then◌ p z)

-- `SB`: who is told of a change of subscription, and what it leaves. Assumes nothing.
use Rattle.std.specs.Prelude.{◌≡◌, refl, Bool, true, false, cond, ◌&&◌, List, [], ℕ, eqb}
use Rattle.std.proofs.Common.{ap, ap₂, ◌∙◌}
use Rattle.model.specs.Lists.{when}
use Rattle.model.specs.Text.{bit}
use Rattle.model.specs.Memory.{name_of, both_rights, with_attributes}
use Rattle.model.specs.Groups.{asked, asks_subscription}
use Rattle.model.specs.Lines.{Line, ListMark, plain, subscribed, list, render}
use Rattle.model.specs.Events.{loud, with_subscribed}
use Rattle.model.specs.declared.Mailbox.{Mailbox}
use Rattle.model.specs.declared.Session.{Session}
use Rattle.line_put.specs.Heard.{After, heard, Hears, Leaves, leaves}

-- bit 3 is not b
abbrev pub differs : ℕ → ℕ → Bool
differs a b = cond (bit 3 a) (eqb b 0) (eqb b 1)

-- somebody is told: groups are asked as if the mailbox were subscribed
abbrev pub subscribe_told : Session → Mailbox → ℕ → ℕ → Bool
subscribe_told s x b q = eqb q 0 && (differs x.attributes b && (both_rights x && asked s (name_of x) (with_subscribed x.attributes 1) asks_subscription))

-- how it is listed
abbrev pub subscribe_mark : ℕ → ListMark
subscribe_mark b = cond (eqb b 1) subscribed plain

-- a quiet record tells nobody
pub loud-when : (q : ℕ) (b : Bool) (l : Line) → loud q (when b l) ≡ when (eqb q 0 && b) l
loud-when q b l = go (eqb q 0)
  where
    go : (c : Bool) → cond c (when b l) [] ≡ when (c && b) l
    go true = refl
    go false = refl

-- what is left
abbrev pub subscribe_after : List ℕ → Session → ℕ → Mailbox → ℕ → ℕ → After
subscribe_after q s at x b quiet = record {
  row = with_attributes x (with_subscribed x.attributes b);
  heard = heard q s at (subscribe_told s x b quiet) (render (list (subscribe_mark b) (name_of x)));
}

-- what the code leaves
pub subscribe_leaves : (q : List ℕ) (s : Session) (at : ℕ) {q' : List ℕ} {s' : Session} {f : ℕ} (x : Mailbox) (b quiet : ℕ) {y : Mailbox} {a : ℕ} {on : Bool} {k : ListMark}
    → a ≡ with_subscribed x.attributes b → y ≡ with_attributes x a → on ≡ subscribe_told s x b quiet → k ≡ subscribe_mark b
    → Hears (heard q s at on (render (list k (name_of x)))) q' s' f → Leaves (subscribe_after q s at x b quiet) y q' s' f
subscribe_leaves q s at x b quiet e d g h w =
    leaves (subscribe_after q s at x b quiet) (d ∙ ap (with_attributes x) e)
    (ap₂ (λ (b : Bool) (j : ListMark). heard q s at b (render (list j (name_of x)))) g h) w

-- a test of four rungs
module _ (a b c d : Bool) where
  pub rung_one : a ≡ false → false ≡ (a && (b && (c && d)))
  rung_one e = rw e

  pub rung_two : a ≡ true → b ≡ false → false ≡ (a && (b && (c && d)))
  rung_two e f = rw (e, f)

  pub rung_three : a ≡ true → b ≡ true → c ≡ false → false ≡ (a && (b && (c && d)))
  rung_three e f g = rw (e, f, g)

  pub rung-four : (r : Bool) → a ≡ true → b ≡ true → c ≡ true → r ≡ d → r ≡ (a && (b && (c && d)))
  rung-four r e f g h = rw (e, f, g) h

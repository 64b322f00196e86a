-- `RN`: who is told of a rename, and what it leaves. Assumes nothing.
use Rattle.std.specs.Prelude.{◌≡◌, Bool, true, false, ◌&&◌, ◌||◌, List, ℕ, eqb}
use Rattle.std.proofs.Common.{ap, ap₂, ◌∙◌}
use Rattle.model.specs.Names.{Name}
use Rattle.model.specs.Memory.{name_of, both_rights, with_name}
use Rattle.model.specs.Groups.{asked_of, asks_name}
use Rattle.model.specs.Lines.{ListMark, renamed, render}
use Rattle.model.specs.Events.{list_mark}
use Rattle.model.specs.declared.Mailbox.{Mailbox}
use Rattle.model.specs.declared.Session.{Session}
use Rattle.line_put.specs.Heard.{After, heard, Hears, Leaves, leaves}

-- somebody is told: a group asks by the old name or by the new one
abbrev pub rename_told : Session → Mailbox → Mailbox → ℕ → Bool
rename_told s x y quiet = eqb quiet 0 && (both_rights x && (asked_of s x asks_name || asked_of s y asks_name))

-- what is left
abbrev pub rename_after : List ℕ → Session → ℕ → Mailbox → Name → ℕ → After
rename_after q s at x n quiet = record {
  row = with_name x n;
  heard = heard q s at (rename_told s x (with_name x n) quiet) (render (renamed (list_mark x) (name_of (with_name x n)) (name_of x)));
}

-- what the code leaves
pub rename_leaves : (q : List ℕ) (s : Session) (at : ℕ) {q' : List ℕ} {s' : Session} {f : ℕ} (x : Mailbox) (n : Name) (quiet : ℕ) {y : Mailbox} {on : Bool} {k : ListMark}
    → y ≡ with_name x n → on ≡ rename_told s x y quiet → k ≡ list_mark x
    → Hears (heard q s at on (render (renamed k (name_of y) (name_of x)))) q' s' f → Leaves (rename_after q s at x n quiet) y q' s' f
rename_leaves q s at x n quiet {y} e g h w =
    leaves (rename_after q s at x n quiet) e
    (ap₂ (λ (b : Bool) (j : ListMark). heard q s at b (render (renamed j (name_of y) (name_of x)))) g h
    ∙ ap (λ (z : Mailbox). heard q s at (rename_told s x z quiet) (render (renamed (list_mark x) (name_of z) (name_of x)))) e) w

-- rung by rung
module _ (a b c d : Bool) where
  pub told-loud : a ≡ false → false ≡ (a && (b && (c || d)))
  told-loud e = rw e

  pub told-rights : a ≡ true → b ≡ false → false ≡ (a && (b && (c || d)))
  told-rights e f = rw (e, f)

  pub told_old : a ≡ true → b ≡ true → c ≡ true → true ≡ (a && (b && (c || d)))
  told_old e f g = rw (e, f, g)

  pub told-new : (r : Bool) → a ≡ true → b ≡ true → c ≡ false → r ≡ d → r ≡ (a && (b && (c || d)))
  told-new r e f g h = rw (e, f, g) h

-- What was read and the position behind it, from the code's answer. Assumes nothing.
use Rattle.std.proofs.Common.{◌≡◌, Option, Some, ap}

pub read-same : {A B : Type 0} {a b : A} {p q : B} → ◌≡◌ {A = Option (A × B)} (Some (a, p)) (Some (b, q)) → (a ≡ b) × (p ≡ q)
read-same {A} {B} {a} {b} {p} {q} h =
    let e : ◌≡◌ {A = A × B} (a, p) (b, q) = cc in
    (ap (λ (x : A × B). x.0) e, ap (λ (x : A × B). x.1) e)

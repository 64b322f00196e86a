-- An entry taken out: those behind it move up, and the freed one holds zeros. Assumes nothing.
use Rattle.std.specs.Prelude.{◌≡◌, length, get_or, set}
use Rattle.std.proofs.Math.Path.{ap}
use Rattle.std.proofs.Common.{ap₂, sym, ◌∙◌, zero-add, length-take-le, drop-cons}
use mathlib.Core.List.{List, ◌∷◌, ◌++◌, append_assoc}
use Prim.Native.Nat.{ℕ, suc, ◌+◌, ◌*◌, ◌-◌, ◌<◌, ◌≤◌}
use native.Mathlib.Omega.{arith}
use Rattle.std.proofs.Math.ListN.{take, drop, length-drop}
use Rattle.std.proofs.lemmas.List.{set_at, drop-take, drop-drop, drop-append-le, take-take, take-append-drop}
use borrow.Rule.Slice.PartMut.{mid_of, post_of, put_mid, same_len_mid, mid_len}
use Rattle.std.proofs.Math.Seq.{take-append-add}
use Rattle.std.specs.List.{copy_within}
use Rattle.model.specs.Memory.{no_message}
use Rattle.model.specs.declared.Message.{Message}
use Rattle.laws.specs.Shift.{without, over, length_without}
use Rattle.table_messages.specs.Words.{messages, messages-length, stored}
use Rattle.table_messages.specs.Laid.{flat, behind, laid, laid_own, laid_put, flat_append, flat-take, flat-drop}

-- entry k of the first n taken out, and the freed one zeros
abbrev pub shut : ℕ → ℕ → List Message → List Message
shut k n l = take (n - 1) (without k l) ++ (no_message ∷ drop n l)

shift_end : (k n j : ℕ) (l : List Message) → k < n → n ≤ length l → j + 1 ≡ n → set (over (without k l) l j) j no_message ≡ shut k n l
unfolding over
shift_end k n j l h w e =
    let hk : k < length l = omega arith in
    let lw = length_without k l hk in
    let hw : j ≤ length (without k l) = omega arith in
    let hl : j < length l = omega arith in
    let a : n - 1 ≡ j = omega arith in
    let b : suc j ≡ n = omega arith in
    ap (λ (r : List Message). set (take j (without k l) ++ r) j no_message) (drop-cons l j no_message hl)
    ∙ (set_at (take j (without k l)) (get_or l j no_message) (drop (suc j) l) no_message j (length-take-le j (without k l) hw)
    ∙ rw (a, ← b))

-- ---- what moves to the front of a part moves within the whole
part_moved : (ws : List ℕ) (a s e : ℕ) → a + s ≤ e → e ≤ length ws
    → let now = mid_of a (e - a) ws in put_mid a (e - a) ws (copy_within now s (length now) 0) ≡ copy_within ws (a + s) e a
part_moved ws a s e h w =
    let n : ℕ = e - (a + s) in
    let now = mid_of a (e - a) ws in
    let long = mid_len a e ws w in
    let e₁ : length now - s ≡ n = omega arith in
    let e₂ : e - a ≡ s + n = omega arith in
    let front : take n (drop s now) ≡ take n (drop (a + s) ws) =
    ap (λ (m : ℕ). take n (drop s (take m (drop a ws)))) e₂ ∙ (ap (take n) (drop-take s n (drop a ws)) ∙ (take-take n n (drop s (drop a ws)) (omega arith) ∙ ap (take n) (drop-drop s a ws))) in
    let back : drop n now ++ post_of a (e - a) ws ≡ drop (a + n) ws =
    sym (drop-append-le n now (post_of a (e - a) ws) (omega arith)) ∙ (ap (drop n) (take-append-drop (e - a) (drop a ws)) ∙ drop-drop n a ws) in
    rw (e₁, zero-add n, front)
    (ap (λ (r : List ℕ). take a ws ++ r) (append_assoc (take n (drop (a + s) ws)) (drop n now) (post_of a (e - a) ws) ∙ ap (λ (r : List ℕ). take n (drop (a + s) ws) ++ r) back)
    ∙ sym (append_assoc (take a ws) (take n (drop (a + s) ws)) (drop (a + n) ws)))

-- ---- words that move up by six places are entries that move up by one
module _ (ws : List ℕ) (k used : ℕ) (h : k < used) (w : used * 6 ≤ length ws) where
  moved : copy_within ws ((k + 1) * 6) (used * 6) (k * 6) ≡ laid ws (over (without k (messages ws)) (messages ws) (used - 1))
  unfolding laid over
  moved =
      let es = messages ws in
      let bs = behind ws in
      let own : ws ≡ flat es ++ bs = laid_own ws in
      let n = messages-length used ws w in
      let d = length-drop (suc k) es in
      let t = length-take-le k es (omega arith) in
      let m : ℕ = used - 1 - k in
      let e₁ : used * 6 - (k + 1) * 6 ≡ m * 6 = omega arith in
      let e₂ : k * 6 + m * 6 ≡ (used - 1) * 6 = omega arith in
      let e₃ : k + 1 ≡ suc k = omega arith in
      let e₄ : length (take k es) + m ≡ used - 1 = omega arith in
      let front : take (k * 6) ws ≡ flat (take k es) = ap (take (k * 6)) own ∙ flat-take k es bs (omega arith) in
      let middle : take (m * 6) (drop ((k + 1) * 6) ws) ≡ flat (take m (drop (suc k) es)) =
      ap₂ (λ (i : ℕ) (l : List ℕ). take (m * 6) (drop (i * 6) l)) e₃ own ∙ (ap (take (m * 6)) (flat-drop (suc k) es bs (omega arith)) ∙ flat-take m (drop (suc k) es) bs (omega arith)) in
      let back : drop ((used - 1) * 6) ws ≡ flat (drop (used - 1) es) ++ bs = ap (drop ((used - 1) * 6)) own ∙ flat-drop (used - 1) es bs (omega arith) in
      let joined : take (used - 1) (without k es) ≡ take k es ++ take m (drop (suc k) es) = ap (λ (i : ℕ). take i (without k es)) (sym e₄) ∙ take-append-add (take k es) (drop (suc k) es) m in
      rw (e₁, e₂, front, middle, back)
      (append_assoc (flat (take k es)) (flat (take m (drop (suc k) es))) (flat (drop (used - 1) es) ++ bs)
      ∙ (ap (λ (l : List ℕ). flat (take k es) ++ l) (flat_append (take m (drop (suc k) es)) (drop (used - 1) es) bs)
      ∙ (flat_append (take k es) (take m (drop (suc k) es) ++ drop (used - 1) es) bs
      ∙ ap (λ (l : List Message). flat l ++ bs) (sym (append_assoc (take k es) (take m (drop (suc k) es)) (drop (used - 1) es)) ∙ ap (λ (l : List Message). l ++ drop (used - 1) es) (sym joined)))))

  -- the words moved up, and then the last entry put
  pub taken : (ws' : List ℕ) (e : Message) → ws' ≡ copy_within ws ((k + 1) * 6) (used * 6) (k * 6) → length ws' ≡ length ws → e ≡ no_message → stored ws' (used - 1) e ≡ laid ws (shut k used (messages ws))
  taken ws' e q l z =
      let es = messages ws in
      let n = messages-length used ws w in
      laid_put ws ws' (over (without k es) es (used - 1)) (used - 1) e (q ∙ moved) (omega arith)
      ∙ ap (laid ws) (ap (set (over (without k es) es (used - 1)) (used - 1)) z ∙ shift_end k used (used - 1) es h n (omega arith))

  -- the code: what stands from entry k on moves up within the slice that begins there
  pub taken_part : (ps : List ℕ) (e : Message) → let now = mid_of (k * 6) (used * 6 - k * 6) ws in ps ≡ copy_within now 6 (length now) 0
      → length ps ≡ length now → e ≡ no_message → stored (put_mid (k * 6) (used * 6 - k * 6) ws ps) (used - 1) e ≡ laid ws (shut k used (messages ws))
  taken_part ps e q l z =
      let next : k * 6 + 6 ≡ (k + 1) * 6 = omega arith in
      taken (put_mid (k * 6) (used * 6 - k * 6) ws ps) e
      (ap (put_mid (k * 6) (used * 6 - k * 6) ws) q ∙ (part_moved ws (k * 6) 6 (used * 6) (omega arith) w ∙ ap (λ (i : ℕ). copy_within ws i (used * 6) (k * 6)) next))
      (same_len_mid (k * 6) (used * 6 - k * 6) ws ps l) z

-- The FETCH line of a message's flags and counter, as it is written piece by piece. Assumes nothing.
use Rattle.std.specs.Prelude.{◌≡◌, refl, Bool, true, false, cond, ◌||◌, List, [], ◌∷◌, ◌++◌, ℕ, ◌/◌, ◌%◌, eqb}
use Rattle.std.proofs.Common.{ap, arith, sym, ◌∙◌, append_assoc, append-nil}
use Rattle.model.specs.Text.{octets, decimal, bit}
use Rattle.model.specs.Lines.{modseq, item_text, render, spaced, space, crlf, flag_names}
use Rattle.model.specs.View.{flags_line}
use Rattle.model.specs.Events.{message}
use Rattle.model.specs.Memory.{uid_of}
use Rattle.model.specs.declared.Message.{Message}

-- a flag's name where it is set, with a space before it where one stands before
abbrev pub piece : Bool → Bool → List ℕ → List ℕ
piece on began n = cond on (cond began (32 ∷ n) n) []

-- a space, where something stands before
abbrev pub gap : Bool → List ℕ
gap began = cond began (32 ∷ []) []

pub piece_gap : (on began : Bool) (t : List ℕ) → on ≡ true → gap began ++ t ≡ piece on began t
piece_gap true true t e = refl
piece_gap true false t e = refl
piece_gap false true t e = ap (λ (b : Bool). piece b true t) (sym e)
piece_gap false false t e = ap (λ (b : Bool). piece b false t) (sym e)

-- five of them
abbrev pub five_pieces : Bool → Bool → Bool → Bool → Bool → List ℕ
five_pieces a b c d e =
    (((piece a false (octets "\\Answered") ++ piece b a (octets "\\Flagged")) ++ piece c (a || b) (octets "\\Deleted"))
    ++ piece d ((a || b) || c) (octets "\\Seen"))
    ++ piece e (((a || b) || c) || d) (octets "\\Draft")

abbrev names : Bool → Bool → Bool → Bool → Bool → List (List ℕ)
names a b c d e =
    cond a (octets "\\Answered" ∷ []) []
    ++ (cond b (octets "\\Flagged" ∷ []) []
    ++ (cond c (octets "\\Deleted" ∷ []) []
    ++ (cond d (octets "\\Seen" ∷ []) []
    ++ cond e (octets "\\Draft" ∷ []) [])))

pieces : (a b c d e : Bool) → five_pieces a b c d e ≡ spaced (names a b c d e)
pieces true true true true true = refl
pieces true true true true false = refl
pieces true true true false true = refl
pieces true true true false false = refl
pieces true true false true true = refl
pieces true true false true false = refl
pieces true true false false true = refl
pieces true true false false false = refl
pieces true false true true true = refl
pieces true false true true false = refl
pieces true false true false true = refl
pieces true false true false false = refl
pieces true false false true true = refl
pieces true false false true false = refl
pieces true false false false true = refl
pieces true false false false false = refl
pieces false true true true true = refl
pieces false true true true false = refl
pieces false true true false true = refl
pieces false true true false false = refl
pieces false true false true true = refl
pieces false true false true false = refl
pieces false true false false true = refl
pieces false true false false false = refl
pieces false false true true true = refl
pieces false false true true false = refl
pieces false false true false true = refl
pieces false false true false false = refl
pieces false false false true true = refl
pieces false false false true false = refl
pieces false false false false true = refl
pieces false false false false false = refl

unfoldable pub flags_text : ℕ → List ℕ
flags_text f = spaced (flag_names f)

pub flags_pieces : (f : ℕ) → five_pieces (eqb (f % 2) 1) (eqb (f / 2 % 2) 1) (eqb (f / 4 % 2) 1) (eqb (f / 8 % 2) 1) (eqb (f / 16 % 2) 1) ≡ flags_text f
unfolding flags_text
flags_pieces f =
    let c : f / 2 / 2 ≡ f / 4 = omega arith in
    let d : f / 2 / 2 / 2 ≡ f / 8 = omega arith in
    let e : f / 2 / 2 / 2 / 2 ≡ f / 16 = omega arith in
    rw (← e, ← d, ← c) (pieces (bit 0 f) (bit 1 f) (bit 2 f) (bit 3 f) (bit 4 f))

-- them as an item
abbrev pub flag_item : ℕ → List ℕ
flag_item f = (octets "FLAGS (" ++ flags_text f) ++ octets ")"

-- the line
unfoldable pub fetch_text : ℕ → ℕ → ℕ → ℕ → List ℕ
fetch_text n u f c =
    (((((octets "* " ++ decimal n) ++ octets " FETCH (UID ") ++ decimal u) ++ piece true true (flag_item f)) ++ piece true true (item_text (modseq c))) ++ (41 ∷ 13 ∷ 10 ∷ [])

left : (a n c u s g f e m z : List ℕ) → (((((a ++ n) ++ c) ++ u) ++ (s ++ ((g ++ f) ++ e))) ++ m) ++ z ≡ a ++ (n ++ (c ++ (u ++ (s ++ (g ++ (f ++ (e ++ (m ++ z))))))))
left a n c u s g f e m z = simp append_assoc

right : (a n c v u s g f e m k z : List ℕ)
    → (a ++ (n ++ (c ++ (((v ++ u) ++ ((s ++ (g ++ (f ++ e))) ++ (m ++ []))) ++ k)))) ++ z ≡ a ++ (n ++ (c ++ (v ++ (u ++ (s ++ (g ++ (f ++ (e ++ (m ++ (k ++ z))))))))))
right a n c v u s g f e m k z = simp (append-nil, append_assoc)

pub fetch-text : (i n u f c : ℕ) → fetch_text n u f c ≡ render (flags_line n (message i u f 0 c))
unfolding fetch_text flags_text render
fetch-text i n u f c =
    left (octets "* ") (decimal n) (octets " FETCH (UID ") (decimal u) space (octets "FLAGS (") (spaced (flag_names f)) (octets ")") (space ++ item_text (modseq c)) (41 ∷ 13 ∷ 10 ∷ [])
    ∙ sym (right (octets "* ") (decimal n) (octets " FETCH (") (octets "UID ") (decimal u) space (octets "FLAGS (") (spaced (flag_names f)) (octets ")")
    (space ++ item_text (modseq c)) (octets ")") crlf)

-- the same of an entry
pub fetch_line : (n : ℕ) (e : Message) → fetch_text n (uid_of e) e.flags e.counter ≡ render (flags_line n e)
fetch_line n e = fetch-text e.mailbox n (uid_of e) e.flags e.counter

-- The texts of the notices as they are written, piece by piece. Assumes nothing.
use Rattle.std.specs.Prelude.{◌≡◌, refl, Bool, true, false, List, [], ◌∷◌, ◌++◌, ℕ}
use Rattle.std.proofs.Common.{sym, append-nil, append_assoc}
use Rattle.model.specs.Lists.{when}
use Rattle.model.specs.Names.{Name}
use Rattle.model.specs.Text.{octets, decimal, quoted}
use Rattle.model.specs.Lines.{Line, ListMark, plain, noselect, non_existent, no_access, subscribed, list, renamed, status, mail_items, flag_items, set_items, mark_text, render, render_all, crlf}
use Rattle.line_mailbox.specs.declared.Mark.{Mark}
use Rattle.line_mailbox.specs.declared.Mark.TheVariants.{Plain, Noselect, NonExistent, NoAccess, Subscribed}

abbrev pub mark_of : Mark → ListMark
mark_of Plain = plain
mark_of Noselect = noselect
mark_of NonExistent = non_existent
mark_of NoAccess = no_access
mark_of Subscribed = subscribed

-- a line of a mailbox and one of its parent, each if it is wanted
abbrev pub pair : Bool → Line → Bool → Line → List Line
pair own l upper k = when own l ++ when upper k

pub none-text : (on : Bool) (l : Line) → on ≡ false → [] ≡ render_all (when on l)
unfolding render_all
none-text on l e = rw e

pub one-text : (on : Bool) (l : Line) → on ≡ true → render l ≡ render_all (when on l)
unfolding render_all
one-text on l e = rw e (sym (append-nil (render l)))

pub pair-text : (own : Bool) (l : Line) (upper : Bool) (k : Line) → render_all (when own l) ++ render_all (when upper k) ≡ render_all (pair own l upper k)
unfolding render_all
pair-text true l upper k = rw (append-nil (render l))
pair-text false l upper k = refl

-- what every LIST line begins with
unfoldable pub listed : ListMark → Name → List ℕ
listed k n = ((octets "* LIST " ++ mark_text k) ++ octets " \"/\" ") ++ quoted n

five : (a b c d e : List ℕ) → (((a ++ b) ++ c) ++ d) ++ e ≡ (a ++ (b ++ (c ++ d))) ++ e
five a b c d e = simp append_assoc

pub list-text : (k : ListMark) (n : Name) → listed k n ++ (13 ∷ 10 ∷ []) ≡ render (list k n)
unfolding listed render
list-text k n = five (octets "* LIST ") (mark_text k) (octets " \"/\" ") (quoted n) crlf

eight : (a b c d e f g z : List ℕ) → (((((a ++ b) ++ c) ++ d) ++ e) ++ f) ++ (g ++ z) ≡ (a ++ (b ++ (c ++ (d ++ (e ++ (f ++ g)))))) ++ z
eight a b c d e f g z = simp append_assoc

pub renamed-text : (k : ListMark) (new old : Name) → ((listed k new ++ octets " (\"OLDNAME\" (") ++ quoted old) ++ (41 ∷ 41 ∷ 13 ∷ 10 ∷ []) ≡ render (renamed k new old)
unfolding listed render
renamed-text k new old = eight (octets "* LIST ") (mark_text k) (octets " \"/\" ") (quoted new) (octets " (\"OLDNAME\" (") (quoted old) (octets "))") crlf

-- what every STATUS line begins with, and what it ends with
unfoldable pub opening : Name → List ℕ
opening n = (octets "* STATUS " ++ quoted n) ++ octets " ("

unfoldable pub ending : ℕ → List ℕ
ending h = (octets " HIGHESTMODSEQ " ++ decimal h) ++ (41 ∷ 13 ∷ 10 ∷ [])

two_items : (a q b s t e z : List ℕ) → (((a ++ q) ++ b) ++ s) ++ (t ++ (e ++ z)) ≡ (a ++ (q ++ (b ++ ((s ++ (t ++ [])) ++ e)))) ++ z
two_items a q b s t e z = simp append_assoc

pub flag-text : (n : Name) (v h : ℕ) → (opening n ++ (octets "UIDVALIDITY " ++ decimal v)) ++ ending h ≡ render (status n (flag_items v h))
unfolding opening ending render
flag-text n v h = two_items (octets "* STATUS ") (quoted n) (octets " (") (octets "UIDVALIDITY " ++ decimal v) (octets " HIGHESTMODSEQ " ++ decimal h) (octets ")") crlf

three_items : (a q b s t u e z : List ℕ) → ((((a ++ q) ++ b) ++ s) ++ t) ++ (u ++ (e ++ z)) ≡ (a ++ (q ++ (b ++ ((s ++ (t ++ (u ++ []))) ++ e)))) ++ z
three_items a q b s t u e z = simp append_assoc

pub mail-text : (n : Name) (u m h : ℕ) → ((opening n ++ (octets "UIDNEXT " ++ decimal u)) ++ (octets " MESSAGES " ++ decimal m)) ++ ending h ≡ render (status n (mail_items u m h))
unfolding opening ending render
mail-text n u m h = three_items (octets "* STATUS ") (quoted n) (octets " (") (octets "UIDNEXT " ++ decimal u) (octets " MESSAGES " ++ decimal m) (octets " HIGHESTMODSEQ " ++ decimal h) (octets ")") crlf

four_items : (a q b s t u v e z : List ℕ) → (((((a ++ q) ++ b) ++ s) ++ t) ++ u) ++ (v ++ (e ++ z)) ≡ (a ++ (q ++ (b ++ ((s ++ (t ++ (u ++ (v ++ [])))) ++ e)))) ++ z
four_items a q b s t u v e z = simp append_assoc

pub set-text : (n : Name) (m u v h : ℕ)
    → (((opening n ++ (octets "MESSAGES " ++ decimal m)) ++ (octets " UIDNEXT " ++ decimal u)) ++ (octets " UIDVALIDITY " ++ decimal v)) ++ ending h ≡ render (status n (set_items m u v h))
unfolding opening ending render
set-text n m u v h =
    four_items (octets "* STATUS ") (quoted n) (octets " (") (octets "MESSAGES " ++ decimal m) (octets " UIDNEXT " ++ decimal u) (octets " UIDVALIDITY " ++ decimal v)
    (octets " HIGHESTMODSEQ " ++ decimal h) (octets ")") crlf

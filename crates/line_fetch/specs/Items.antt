-- The FETCH line of a new message: what was asked, in the order UID, FLAGS, RFC822.SIZE, and its counter (01, What is written, 10; 02, 1). Assumes nothing.
use Rattle.std.specs.Prelude.{◌≡◌, Bool, true, false, cond, ◌||◌, List, [], ◌∷◌, ◌++◌, ℕ}
use Rattle.std.proofs.Common.{ap, ◌∙◌, append_assoc, append-nil}
use Rattle.model.specs.Text.{octets, decimal}
use Rattle.model.specs.Memory.{uid_of}
use Rattle.model.specs.Lines.{fetch, Item, uid, flags, size, modseq, item_text, item_texts, spaced, flag_names, render, crlf}
use Rattle.model.specs.declared.Message.{Message}
use Rattle.line_fetch.specs.declared.Shows.{Shows}
use Rattle.line_fetch.specs.Fetch.{piece, flags_text, flag_item}

-- two texts
abbrev pub uid_text : ℕ → List ℕ
uid_text u = octets "UID " ++ decimal u

abbrev pub size_text : ℕ → List ℕ
size_text z = octets "RFC822.SIZE " ++ decimal z

-- which of them are asked, and the counter behind them
abbrev pub items_text : Shows → Message → List ℕ
items_text w e =
    ((piece w.uid false (uid_text (uid_of e)) ++ piece w.flags w.uid (flag_item e.flags)) ++ piece w.size (w.uid || w.flags) (size_text e.size))
    ++ piece true ((w.uid || w.flags) || w.size) (item_text (modseq e.counter))

unfoldable pub new_text : Shows → ℕ → Message → List ℕ
new_text w n e = (((octets "* " ++ decimal n) ++ octets " FETCH (") ++ items_text w e) ++ (41 ∷ 13 ∷ 10 ∷ [])

-- in the rules' words
abbrev pub shown : Shows → Message → List Item
shown w e = cond w.uid (uid e.uid ∷ []) [] ++ (cond w.flags (flags e.flags ∷ []) [] ++ cond w.size (size e.size ∷ []) [])

-- with the counter, which every FETCH ends with
abbrev counted : List Item → Message → List Item
counted is e = is ++ (modseq e.counter ∷ [])

items : (a b c : Bool) (u f z m : Item) → ((piece a false (item_text u) ++ piece b a (item_text f)) ++ piece c (a || b) (item_text z)) ++ piece true ((a || b) || c) (item_text m)
    ≡ spaced (item_texts ((cond a (u ∷ []) [] ++ (cond b (f ∷ []) [] ++ cond c (z ∷ []) [])) ++ (m ∷ [])))
items true true true u f z m = simp (append-nil, append_assoc)
items true true false u f z m = simp (append-nil, append_assoc)
items true false true u f z m = simp (append-nil, append_assoc)
items true false false u f z m = simp append-nil
items false true true u f z m = simp (append-nil, append_assoc)
items false true false u f z m = simp (append-nil, append_assoc)
items false false true u f z m = simp (append-nil, append_assoc)
items false false false u f z m = simp append-nil

flag_item_lem : (f : ℕ) → flag_item f ≡ item_text (flags f)
unfolding flags_text
flag_item_lem f = append_assoc (octets "FLAGS (") (spaced (flag_names f)) (octets ")")

items-text : (w : Shows) (e : Message) → items_text w e ≡ spaced (item_texts (counted (shown w e) e))
items-text w e =
    ap (λ (t : List ℕ). ((piece w.uid false (uid_text (uid_of e)) ++ piece w.flags w.uid t) ++ piece w.size (w.uid || w.flags) (size_text e.size))
    ++ piece true ((w.uid || w.flags) || w.size) (item_text (modseq e.counter))) (flag_item_lem e.flags)
    ∙ items w.uid w.flags w.size (uid e.uid) (flags e.flags) (size e.size) (modseq e.counter)

regroup : (a b c d e z : List ℕ) → (((a ++ b) ++ c) ++ d) ++ (e ++ z) ≡ (a ++ (b ++ (c ++ (d ++ e)))) ++ z
regroup a b c d e z = simp append_assoc

pub new-text : (w : Shows) (n : ℕ) (e : Message) → new_text w n e ≡ render (fetch (record { 0 = n }) e.uid (shown w e ++ (modseq e.counter ∷ [])))
unfolding new_text render
new-text w n e =
    ap (λ (t : List ℕ). (((octets "* " ++ decimal n) ++ octets " FETCH (") ++ t) ++ (41 ∷ 13 ∷ 10 ∷ [])) (items-text w e)
    ∙ regroup (octets "* ") (decimal n) (octets " FETCH (") (spaced (item_texts (counted (shown w e) e))) (octets ")") crlf

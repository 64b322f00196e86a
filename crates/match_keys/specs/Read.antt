-- What the grammar reads is proper: no number of a set is 0. So the cells say which keys were read. Assumes nothing.
use Rattle.std.specs.Prelude.{◌≡◌, refl, Bool, true, false, cond, ◌&&◌, ◌||◌, List, [], ◌∷◌, ℕ, zero, suc, ◌+◌, ◌-◌, ◌*◌, ◌<◌, ◌≤◌, leb, ltb, length, take, drop, get_or}
use Rattle.std.proofs.Common.{ap, ap₂, sym, ◌∙◌, add-zero, arith, ltb-true, ltb-false, leb-true, get_or-drop}
use Rattle.std.proofs.lemmas.Bool.{eqb-false}
use Rattle.std.proofs.lemmas.List.Edits.{sets, sets-eq}
use Rattle.std.proofs.Math.Seq.{take-append_seam}
use Rattle.model.specs.Octets.{digit}
use Rattle.model.specs.Requests.{Bound, number, Part, Test, all, unsupported, flagged, larger, smaller, uids, numbers, Key, non, either, group, Keys, more}
use Rattle.model.specs.Limits.{parts_of}
use Rattle.model.specs.Reading.{Parsed, bad, ok, and_then, octet_at, stands, after_by, after, run_length, end_of, piece, atom_at, is, is_of, value_from, small, number_at, positive_at, astring_at, date_at, Next, another, over, neither, row_by, row_at, Ending, closing, line_end, next_at, bound_at, part_read, part_at, number_set_at}
use Rattle.model.specs.SearchGrammar.{Keyword, bare, above, below, uid_set, string, keyword, date, header, negated, alternatives, strange, word_of_flag, unsupported_word, keyword_of, Start, single, negation, alternation, opening, wrong, single_of, argued, start_by, start_of, start_at, key_by, keys_by, key_at, keys_at, program_at}
use Rattle.read_keys.specs.Table.{codes}
use Rattle.match_keys.specs.Tests.{ProperBound, ProperParts, Proper, Propers}

-- what was read is such, if anything was
abbrev pub GivesOf : {A : Type 0} → (A → Type 0) → Parsed A → Type 0
GivesOf P bad = Unit {0}
GivesOf P (ok p a) = P a

pub record Gives {A : Type 0} (P : A → Type 0) (x : Parsed A) : Type 0 where
  pub it : GivesOf P x

module _ {A : Type 0} {P : A → Type 0} where
  none : Gives P bad
  none = record { it = tt }

  one : {p : ℕ} {a : A} → P a → Gives P (ok p a)
  one h = record { it = h }

  pick : (b : Bool) {x y : Parsed A} → Gives P x → Gives P y → Gives P (cond b x y)
  pick true h k = h
  pick false h k = k

  behind : (b : Bool) (p : ℕ) (f : ℕ → Parsed A) → ((q : ℕ) → Gives P (f q)) → Gives P (after_by b p f)
  behind true p f h = h p
  behind false p f h = none

module _ {A B : Type 0} (P : A → Type 0) {Q : B → Type 0} where
  follow : (x : Parsed A) (f : ℕ → A → Parsed B) → Gives P x → ((p : ℕ) (a : A) → P a → Gives Q (f p a)) → Gives Q (and_then x f)
  follow bad f h k = none
  follow (ok p a) f h k = k p a h.it

-- nothing is asked of what is read before
any : {A : Type 0} (x : Parsed A) → Gives (λ _. Unit {0}) x
any bad = none
any (ok p a) = one tt

-- ---- numbers
value_least : (v : ℕ) (ds : List ℕ) → v ≤ value_from v ds
unfolding value_from
value_least v [] = omega arith
value_least v (d ∷ ds) = let h = value_least (v * 10 + (d - 48)) ds in omega arith

first-digit : (l : List ℕ) (k : ℕ) → 0 < k → k ≡ run_length digit l → (get_or l 0 0 ≡ 48 → ⊥) → 0 < value_from 0 (take k l)
unfolding run_length value_from
first-digit [] k h e z = absurd (let y : ⊥ = omega arith in y)
first-digit (b ∷ l) zero h e z = absurd (let y : ⊥ = omega arith in y)
first-digit (b ∷ l) (suc k) h e z =
    let m : 48 ≤ b = from (leb 48 b) refl e in
    let n : 48 < b = above_it (ltb 48 b) refl m in
    let v = value_least (0 * 10 + (b - 48)) (take k l) in
    omega arith
  where
    from : (t : Bool) → leb 48 b ≡ t → suc k ≡ cond (t && leb b 57) (suc (run_length digit l)) 0 → 48 ≤ b
    from true q e = leb-true 48 b q
    from false q e = absurd (let y : ⊥ = omega arith in y)

    above_it : (t : Bool) → ltb 48 b ≡ t → 48 ≤ b → 48 < b
    above_it true q m = ltb-true 48 b q
    above_it false q m = let w = ltb-false 48 b q in absurd (z (let y : b ≡ 48 = omega arith in y))

positive_is : (s : List ℕ) (p : ℕ) → stands s p "0" ≡ false → ltb p (end_of digit s p) ≡ true → 0 < value_from 0 (piece s p (end_of digit s p))
positive_is s p e f =
    let h = ltb-true p (end_of digit s p) f in
    let g : get_or (drop p s) 0 0 ≡ get_or s p 0 = get_or-drop p s 0 0 ∙ ap (λ (k : ℕ). get_or s k 0) (add-zero p) in
    first-digit (drop p s) (end_of digit s p - p) (omega arith) (omega arith) (λ z. eqb-false (get_or s p 0) 48 e (sym g ∙ z))

positive_gives : (s : List ℕ) (p : ℕ) → Gives (λ (n : ℕ). 0 < n) (positive_at s p)
unfolding number_at
positive_gives s p = zeros (stands s p "0") refl
  where
    long :
        (t : Bool) → ltb p (end_of digit s p) ≡ t → stands s p "0" ≡ false
        → Gives (λ (n : ℕ). 0 < n) (and_then (cond t (ok (end_of digit s p) (piece s p (end_of digit s p))) bad) (λ q ds. small q (value_from 0 ds)))
    long true f e = pick (leb (value_from 0 (piece s p (end_of digit s p))) 4294967295) (one (positive_is s p e f)) none
    long false f e = none

    zeros : (t : Bool) → stands s p "0" ≡ t → Gives (λ (n : ℕ). 0 < n) (cond t bad (number_at s p))
    zeros true e = none
    zeros false e = long (ltb p (end_of digit s p)) refl e

-- ---- sets
bound_gives : (s : List ℕ) (p : ℕ) → Gives ProperBound (bound_at s p)
bound_gives s p = pick (stands s p "*") (one tt) (follow (λ (n : ℕ). 0 < n) (positive_at s p) (λ q n. ok q (number n)) (positive_gives s p) (λ q n h. one h))

abbrev ProperPart : Part → Type 0
ProperPart x = ProperBound x.from × ProperBound x.upto

part_by : (b : Bool) (s : List ℕ) (p : ℕ) (a : Bound) → ProperBound a → Gives ProperPart (part_read b s p a)
part_by true s p a h = follow ProperBound (bound_at s (p + 1)) (λ q b. ok q (record { from = a; upto = b })) (bound_gives s (p + 1)) (λ q b k. one (h, k))
part_by false s p a h = one (h, h)

part_gives : (s : List ℕ) (p : ℕ) → Gives ProperPart (part_at s p)
part_gives s p = follow ProperBound (bound_at s p) (λ q a. part_read (stands s q ":") s q a) (bound_gives s p) (λ q a h. part_by (stands s q ":") s q a h)

row_gives : (n : ℕ) (s : List ℕ) (next : ℕ → Next) (p : ℕ) → Gives ProperParts (row_at n (part_at s) next p)
unfolding row_at
row_gives zero s next p = none
row_gives (suc n) s next p = follow ProperPart (part_at s p) (λ q a. row_by (next q) (λ r. row_at n (part_at s) next r) a) (part_gives s p) (λ q a h. rest (next q) a h (λ r. row_gives n s next r))
  where
    rest : (x : Next) (a : Part) → ProperPart a → ((r : ℕ) → Gives ProperParts (row_at n (part_at s) next r)) → Gives ProperParts (row_by x (λ r. row_at n (part_at s) next r) a)
    rest (another r) a h k = follow ProperParts (row_at n (part_at s) next r) (λ q l. ok q (a ∷ l)) (k r) (λ q l g. one (h, g))
    rest (over r) a h k = one (h, tt)
    rest neither a h k = none

set_gives : (s : List ℕ) (p : ℕ) → Gives ProperParts (number_set_at s p)
unfolding number_set_at
set_gives s p = row_gives (length s) s (λ q. cond (stands s q ",") (another (q + 1)) (over q)) p

-- ---- tests
abbrev ProperTest : Test → Type 0
ProperTest t = ProperParts (parts_of t)

abbrev WordOf : Keyword → Type 0
WordOf (bare t) = ProperTest t
WordOf above = Unit {0}
WordOf below = Unit {0}
WordOf uid_set = Unit {0}
WordOf string = Unit {0}
WordOf keyword = Unit {0}
WordOf date = Unit {0}
WordOf header = Unit {0}
WordOf negated = Unit {0}
WordOf alternatives = Unit {0}
WordOf strange = Unit {0}

pub record Word (k : Keyword) : Type 0 where
  pub it : WordOf k

word : {k : Keyword} → WordOf k → Word k
word h = record { it = h }

choose : (b : Bool) {x y : Keyword} → Word x → Word y → Word (cond b x y)
choose true h k = h
choose false h k = k

flag : (b : Bool) (n : ℕ) (on : Bool) {y : Keyword} → Word y → Word (cond b (bare (flagged n on)) y)
flag b n on h = choose b {x = bare (flagged n on)} (word tt) h

unsupported_word_lem : (w : List ℕ) → Word (unsupported_word w)
unsupported_word_lem w =
    choose (is_of w ("NEW" ∷ "OLD" ∷ "RECENT" ∷ [])) {x = bare unsupported} (word tt)
    (choose (is_of w ("BCC" ∷ "BODY" ∷ "CC" ∷ "FROM" ∷ "SUBJECT" ∷ "TEXT" ∷ "TO" ∷ [])) {x = string} (word tt)
    (choose (is_of w ("KEYWORD" ∷ "UNKEYWORD" ∷ [])) {x = keyword} (word tt)
    (choose (is_of w ("BEFORE" ∷ "ON" ∷ "SINCE" ∷ "SENTBEFORE" ∷ "SENTON" ∷ "SENTSINCE" ∷ [])) {x = date} (word tt)
    (choose (is w "HEADER") {x = header} {y = strange} (word tt) (word tt)))))

flag_word : (w : List ℕ) (k : Keyword) → Word k → Word (word_of_flag w k)
flag_word w k h =
    flag (is w "ANSWERED") 0 true (flag (is w "UNANSWERED") 0 false
    (flag (is w "FLAGGED") 1 true (flag (is w "UNFLAGGED") 1 false
    (flag (is w "DELETED") 2 true (flag (is w "UNDELETED") 2 false
    (flag (is w "SEEN") 3 true (flag (is w "UNSEEN") 3 false
    (flag (is w "DRAFT") 4 true (flag (is w "UNDRAFT") 4 false h)))))))))

word_proper : (w : List ℕ) → Word (keyword_of w)
unfolding keyword_of
word_proper w =
    choose (is w "ALL") {x = bare all} (word tt)
    (choose (is w "LARGER") {x = above} (word tt)
    (choose (is w "SMALLER") {x = below} (word tt)
    (choose (is w "UID") {x = uid_set} (word tt)
    (choose (is w "NOT") {x = negated} (word tt)
    (choose (is w "OR") {x = alternatives} (word tt)
    (flag_word w (unsupported_word w) (unsupported_word_lem w)))))))

abbrev Begun : Start → Type 0
Begun (single p t) = ProperTest t
Begun (negation p) = Unit {0}
Begun (alternation p) = Unit {0}
Begun (opening p) = Unit {0}
Begun wrong = Unit {0}

single_begun : (x : Parsed Test) → Gives ProperTest x → Begun (single_of x)
single_begun bad h = tt
single_begun (ok p t) h = h.it

argued_gives : {A : Type 0} (x : Parsed A) → Gives ProperTest (argued x)
argued_gives bad = none
argued_gives (ok p a) = one tt

begun_pick : (b : Bool) (x y : Start) → Begun x → Begun y → Begun (cond b x y)
begun_pick true x y h k = h
begun_pick false x y h k = k

module _ (s : List ℕ) (p : ℕ) where
  spaced : (f : ℕ → Parsed Test) → ((q : ℕ) → Gives ProperTest (f q)) → Begun (single_of (after s p " " f))
  spaced f h = single_begun (after s p " " f) (behind (stands s p " ") (p + 1) f h)

  start_by_lem : (k : Keyword) → WordOf k → Begun (start_by k s p)
  start_by_lem (bare t) h = h
  start_by_lem above h = spaced (λ q. and_then (number_at s q) λ r n. ok r (larger n)) (λ q. follow (λ _. Unit {0}) (number_at s q) (λ r n. ok r (larger n)) (any (number_at s q)) (λ r n g. one tt))
  start_by_lem below h = spaced (λ q. and_then (number_at s q) λ r n. ok r (smaller n)) (λ q. follow (λ _. Unit {0}) (number_at s q) (λ r n. ok r (smaller n)) (any (number_at s q)) (λ r n g. one tt))
  start_by_lem uid_set h = spaced (λ q. and_then (number_set_at s q) λ r parts. ok r (uids parts)) (λ q. follow ProperParts (number_set_at s q) (λ r parts. ok r (uids parts)) (set_gives s q) (λ r parts g. one g))
  start_by_lem string h = spaced (λ q. argued (astring_at s q)) (λ q. argued_gives (astring_at s q))
  start_by_lem keyword h = spaced (λ q. argued (atom_at s q)) (λ q. argued_gives (atom_at s q))
  start_by_lem date h = spaced (λ q. argued (date_at s q)) (λ q. argued_gives (date_at s q))
  start_by_lem header h =
      spaced (λ q. and_then (astring_at s q) λ r field. after s r " " λ t. argued (astring_at s t))
      (λ q. follow (λ _. Unit {0}) (astring_at s q) (λ r field. after s r " " λ t. argued (astring_at s t)) (any (astring_at s q))
      (λ r field g. behind (stands s r " ") (r + 1) (λ t. argued (astring_at s t)) (λ t. argued_gives (astring_at s t))))
  start_by_lem negated h = begun_pick (stands s p " ") (negation (p + 1)) wrong tt tt
  start_by_lem alternatives h = begun_pick (stands s p " ") (alternation (p + 1)) wrong tt tt
  start_by_lem strange h = tt

start_of_lem : (x : Parsed (List ℕ)) (s : List ℕ) → Begun (start_of x s)
start_of_lem bad s = tt
start_of_lem (ok p w) s = start_by_lem s p (keyword_of w) (word_proper w).it

start_begun : (s : List ℕ) (p : ℕ) → Begun (start_at s p)
unfolding start_at
start_begun s p =
    begun_pick (stands s p "(") (opening (p + 1)) (cond (digit (octet_at s p) || stands s p "*") (single_of (and_then (number_set_at s p) λ q parts. ok q (numbers parts))) (start_of (atom_at s p) s)) tt
    (begun_pick (digit (octet_at s p) || stands s p "*") (single_of (and_then (number_set_at s p) λ q parts. ok q (numbers parts))) (start_of (atom_at s p) s)
    (single_begun (and_then (number_set_at s p) λ q parts. ok q (numbers parts)) (follow ProperParts (number_set_at s p) (λ q parts. ok q (numbers parts)) (set_gives s p) (λ q parts g. one g)))
    (start_of_lem (atom_at s p) s))

-- ---- keys
module _ (s : List ℕ) (key : ℕ → Parsed Key) (list : ℕ → Parsed Keys) (hk : (q : ℕ) → Gives Proper (key q)) (hl : (q : ℕ) → Gives Propers (list q)) where
  key_by_lem : (x : Start) → Begun x → Gives Proper (key_by x key list s)
  unfolding Proper
  key_by_lem (single p t) h = one h
  key_by_lem (negation p) h = follow Proper (key p) (λ q k. ok q (non k)) (hk p) (λ q k g. one g)
  key_by_lem (alternation p) h =
      follow Proper (key p) (λ q a. after s q " " λ r. and_then (key r) λ e b. ok e (either a b)) (hk p)
      (λ q a g. behind (stands s q " ") (q + 1) (λ r. and_then (key r) λ e b. ok e (either a b))
      (λ r. follow Proper (key r) (λ e b. ok e (either a b)) (hk r) (λ e b f. one (g, f))))
  key_by_lem (opening p) h = follow Propers (list p) (λ q ks. ok q (group ks)) (hl p) (λ q ks g. one g)
  key_by_lem wrong h = none

keys_by_lem : (list : ℕ → Parsed Keys) → ((q : ℕ) → Gives Propers (list q)) → (x : Next) (k : Key) → Proper k → Gives Propers (keys_by x list k)
unfolding Proper
keys_by_lem list hl (another p) k h = follow Propers (list p) (λ q ks. ok q (more k ks)) (hl p) (λ q ks g. one (h, g))
keys_by_lem list hl (over p) k h = one (h, tt)
keys_by_lem list hl neither k h = none

both : (n : ℕ) → ((s : List ℕ) (p : ℕ) → Gives Proper (key_at n s p)) × ((e : Ending) (s : List ℕ) (p : ℕ) → Gives Propers (keys_at n e s p))
unfolding key_at
both zero = ((λ s p. none), (λ e s p. none))
both (suc n) =
    let r = both n in (
      (λ s p. key_by_lem s (λ q. key_at n s q) (λ q. keys_at n closing s q) (λ q. r.0 s q) (λ q. r.1 closing s q) (start_at s p) (start_begun s p)),
      (λ e s p. follow Proper (key_at n s p) (λ q k. keys_by (next_at e s q) (λ t. keys_at n e s t) k) (r.0 s p) (λ q k h. keys_by_lem (λ t. keys_at n e s t) (λ t. r.1 e s t) (next_at e s q) k h)),
    )

-- the keys of a command are proper
pub read_proper : (s : List ℕ) (p q : ℕ) (ks : Keys) → program_at s p ≡ ok q ks → Propers ks
read_proper s p q ks e = (rw e at ((both (2 * length s + 1)).1 line_end s p)).it

-- ---- what the reader wrote
module _ (b b' : List ℕ) (ks : Keys) (w : b' ≡ sets b 0 (codes ks)) (u : ℕ) (e : u ≡ 0 + length (codes ks)) (h : u ≤ length b) where
  pub read_cells : take u b' ≡ codes ks
  read_cells =
      let z : u ≡ length (codes ks) = omega arith in
      ap₂ (λ (n : ℕ) (l : List ℕ). take n l) z (w ∙ sets-eq (codes ks) b 0 (omega arith)) ∙ take-append_seam (codes ks) (drop (0 + length (codes ks)) b)

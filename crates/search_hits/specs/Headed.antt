-- The head of a line that is a search: where its tag and its word end. Assumes nothing.
use Rattle.std.proofs.Math.Path.{◌≡◌, refl, ap}
use Rattle.std.proofs.Common.{sym, ◌∙◌, eqb-true}
use Rattle.std.specs.Prelude.{Option, Some, None, Bool, ◌&&◌, List, ℕ, ◌+◌, ◌≤◌, eqb, leb, length, take}
use Rattle.std.proofs.Math.Bool.{true, false, cond}
use native.Mathlib.Omega.{arith}
use Rattle.model.specs.Laws.{and_r}
use Rattle.model.specs.Octets.{atom_octet}
use Rattle.model.specs.Requests.{Verb as Word, notify, esearch, other_verb, Asked, Command, notify_set, Search, search}
use Rattle.model.specs.Reading.{Parsed, bad, ok, and_then, after_by, stands, end_of, atom_at, word_at}
use Rattle.model.specs.NotifyGrammar.{groups_at, set_by, Form, cancel, replace, formless, form_at, notify_by, notify_at}
use Rattle.model.specs.SearchGrammar.{search_at}
use Rattle.model.specs.Commands.{tag_end, tagged, tag_of, verb_at, command_by, command_at, command_of}
use Rattle.octets.specs.Rows.{in-text}
use Rattle.read_options.specs.Heads.{read_verb, ReadsVerb}
use Rattle.read_options.specs.declared.Verb.{Verb}
use Rattle.read_commands.specs.Judging.{whole, whole_by}
use Rattle.line_answer.specs.Tagged.{tag_short, tag_some}
use Rattle.line_found.specs.Commanded.{search-behind}

-- r is the position behind the word, in a line that is a search
pub record Behind (s : List ℕ) (r : ℕ) : Type 0 where
  pub within : r ≤ length s
  pub exact : (p : ℕ) (q : Search) → command_of s ≡ ok p (search q) → search_at s (r + 1) ≡ ok p (search q)

-- it is no search
abbrev pub Never : List ℕ → Type 0
Never s = (p : ℕ) (q : Search) → command_of s ≡ ok p (search q) → ⊥

abbrev pub BehindWord : List ℕ → Option ℕ → Type 0
BehindWord s (Some r) = Behind s r
BehindWord s None = Never s

-- the tag as code cuts it out: none, where the line has none
abbrev pub tag_by : List ℕ → List ℕ
tag_by s = take (cond (tagged s) (tag_end s) 0) s

-- r is its length
pub record Tags (s : List ℕ) (r : ℕ) : Type 0 where
  pub short : r ≤ 32
  pub within : r ≤ length s
  pub exact : take r s ≡ tag_by s

-- ---- a line that is a command has a tag
module _ (s : List ℕ) (p : ℕ) (k : Command) where
  tag-stands : command_of s ≡ ok p k → tagged s ≡ true
  unfolding command_of
  tag-stands e = go (tagged s) e
    where
      go : (b : Bool) → cond b (whole s (command_at s (tag_end s + 1))) bad ≡ ok p k → b ≡ true
      go true f = refl
      go false f = absurd (let z : ◌≡◌ {A = ℕ} 0 1 = cc in let y : ⊥ = omega arith in y)

  behind_tag : command_of s ≡ ok p k → whole s (command_at s (tag_end s + 1)) ≡ ok p k
  unfolding command_of
  behind_tag e = ap (λ (b : Bool). cond b (whole s (command_at s (tag_end s + 1))) bad) (sym (tag-stands e)) ∙ e

  pub tag_is : command_of s ≡ ok p k → tag_by s ≡ tag_of s
  tag_is e = let t = tag-stands e in tag_some s (cond (tagged s) (tag_end s) 0) (ap (λ (b : Bool). cond b (tag_end s) 0) t) t

-- ---- behind NOTIFY stands no search
abbrev Other : Parsed Command → Type 0
Other x = (p : ℕ) (q : Search) → x ≡ ok p (search q) → ⊥

other-bad : Other bad
other-bad p q e = let z : ◌≡◌ {A = ℕ} 0 1 = cc in omega arith

module _ (s : List ℕ) where
  by_groups : (status : Bool) (x : Parsed (List Asked)) → Other (and_then x (λ r gs. ok r (notify_set status gs)))
  by_groups status bad p q e = other-bad p q e
  by_groups status (ok r gs) p q e = let z : ◌≡◌ {A = ℕ} 0 1 = cc in omega arith

  by-space : (b : Bool) (at : ℕ) (f : ℕ → Parsed Command) → ((r : ℕ) → Other (f r)) → Other (after_by b at f)
  by-space true at f h = h at
  by-space false at f h = other-bad

  by-status : (b : Bool) (at : ℕ) → Other (set_by b s at)
  by-status true at = by-space (stands s (end_of atom_octet s at) " ") (end_of atom_octet s at + 1) (λ r. and_then (groups_at s r) (λ t gs. ok t (notify_set true gs))) (λ r. by_groups true (groups_at s r))
  by-status false at = by_groups false (groups_at s at)

  by_form : (f : Form) (at : ℕ) → Other (notify_by f s at)
  by_form cancel at p q e = let z : ◌≡◌ {A = ℕ} 0 1 = cc in omega arith
  by_form replace at p q e = by-space (stands s at " ") (at + 1) (λ r. set_by (word_at s r "STATUS") s r) (λ r. by-status (word_at s r "STATUS") r) p q e
  by_form formless at p q e = other-bad p q e

  by_notify : (at : ℕ) → Other (notify_at s at)
  unfolding notify_at
  by_notify at = by_form (form_at s at) (end_of atom_octet s at)

  upto_end : (x : Parsed Command) → Other x → Other (whole s x)
  upto_end bad h p q e = other-bad p q e
  upto_end (ok r c) h p q e = go (eqb r (length s)) e
    where
      go : (b : Bool) → cond b (ok r c) bad ≡ ok p (search q) → ⊥
      go true f = h p q f
      go false f = other-bad p q f

  by_word : (w : Word) (at p : ℕ) (q : Search) → whole_by w s at ≡ ok p (search q) → whole_by esearch s at ≡ ok p (search q)
  by_word notify at p q e = absurd (upto_end (command_by notify s at) (by-space (stands s at " ") (at + 1) (λ t. notify_at s t) by_notify) p q e)
  by_word esearch at p q e = e
  by_word other_verb at p q e = absurd (other-bad p q e)

  behind_is : {x y : Verb × ℕ} → Some x ≡ Some y → x.1 ≡ y.1
  behind_is f = ap (λ (z : Verb × ℕ). z.1) (inside f)
    where
      inside : {x y : Verb × ℕ} → Some x ≡ Some y → x ≡ y
      inside z = cc

  by_atom : (x : Parsed (List ℕ)) (p : ℕ) (q : Search) → whole s (and_then x (λ r w. command_by (verb_at w) s r)) ≡ ok p (search q) → (v : Verb) (at : ℕ) → Some (v, at) ≡ read_verb x → whole_by esearch s at ≡ ok p (search q)
  by_atom bad p q e v at f = absurd (other-bad p q e)
  by_atom (ok r w) p q e v at f = let z : at ≡ r = behind_is f in by_word (verb_at w) at p q (ap (λ (n : ℕ). whole_by (verb_at w) s n) z ∙ e)

  no_atom : (x : Parsed (List ℕ)) (p : ℕ) (q : Search) → whole s (and_then x (λ r w. command_by (verb_at w) s r)) ≡ ok p (search q) → None ≡ read_verb x → ⊥
  no_atom bad p q e f = other-bad p q e
  no_atom (ok r w) p q e f = let z : ◌≡◌ {A = ℕ} 0 1 = cc in omega arith

-- ---- the word
module _ (s : List ℕ) (end : ℕ) (e : end ≡ tag_end s) where
  behind_end : (p : ℕ) (q : Search) → command_of s ≡ ok p (search q) → whole s (command_at s (end + 1)) ≡ ok p (search q)
  behind_end p q c = ap (λ (n : ℕ). whole s (command_at s (n + 1))) e ∙ behind_tag s p (search q) c

  pub behind-found : {v : Verb} {at : ℕ} → ReadsVerb s (end + 1) (Some (v, at)) → Behind s at
  behind-found {v} {at} x = record {
    within = x.within.1;
    exact = λ p q c. search-behind s p q at (by_atom s (atom_at s (end + 1)) p q (behind_end p q c) v at x.exact);
  }

  pub behind_none : ReadsVerb s (end + 1) None → Never s
  behind_none x p q c = no_atom s (atom_at s (end + 1)) p q (behind_end p q c) x.exact

-- ---- the tag
pub tags_by : (s : List ℕ) (r : ℕ) → r ≡ cond (tagged s) (tag_end s) 0 → Tags s r
tags_by s r e = go (tagged s) refl e
  where
    go : (b : Bool) → tagged s ≡ b → r ≡ cond b (tag_end s) 0 → Tags s r
    go true t f =
        let a = tag_short s t in
        let b = in-text s (tag_end s) (eqb-true _ _ (and_r (leb 1 (tag_end s) && leb (tag_end s) 32) (stands s (tag_end s) " ") t)) (omega arith) in
        record { short = omega arith; within = omega arith; exact = ap (λ (n : ℕ). take n s) e }
    go false t f = record { short = omega arith; within = omega arith; exact = ap (λ (n : ℕ). take n s) e }

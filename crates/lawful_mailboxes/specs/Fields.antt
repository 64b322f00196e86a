-- A mailbox's fields, test by test, by its columns. Assumes nothing.
use Rattle.std.specs.Prelude.{◌≡◌, refl, Bool, true, false, ◌&&◌, List, [], ◌∷◌, ℕ, ◌+◌, ◌-◌, ◌*◌, ◌/◌, ◌%◌, ◌<◌, ◌≤◌, leb, length, take, drop, get_or}
use Rattle.std.proofs.Common.{ap, sym, ◌∙◌, arith, leb-true}
use Rattle.model.specs.Laws.{and_r}
use Rattle.model.specs.Lists.{every, same}
use Rattle.model.specs.Names.{valid, fold}
use Rattle.model.specs.Memory.{no_mailbox, name_of, counter_of}
use Rattle.model.specs.Lawful.{counter_ok, zeros, mailbox_ok}
use Rattle.model.specs.declared.Mailbox.{Mailbox}
use Rattle.table_mailboxes.specs.Columns.{Laid, block}
use Rattle.table_mailboxes.specs.declared.Columns.{Columns}
use Rattle.table_mailboxes.specs.Whole.{LaidIn}
-- a row's name is tested as a session's is: by the one definition
pub use Rattle.names.specs.Kept.{name_by}

-- ---- a row by its columns
abbrev pub row_at : List ℕ → List ℕ → List ℕ → List ℕ → List ℕ → List ℕ → List ℕ → ℕ → Mailbox
row_at ids attributes lens validities nexts counters names k = record {
  id = get_or ids k 0;
  attributes = get_or attributes k 0;
  namelen = get_or lens k 0;
  uidvalidity = get_or validities k 0;
  uidnext = get_or nexts k 0;
  counterlow = get_or counters k 0 % 4294967296;
  counterhigh = get_or counters k 0 / 4294967296;
  name = block names k;
}

abbrev pub row_in : Columns → ℕ → Mailbox
row_in c k = row_at c.ids c.attributes c.lens c.validities c.nexts c.counters c.names k

-- ---- all of a mailbox's tests
abbrev pub numbers_by : ℕ → ℕ → ℕ → ℕ → ℕ → ℕ → Bool
numbers_by id attributes len validity next counter = leb 1 id && (leb attributes 63 && (leb 1 validity && (leb 1 next && (counter_ok counter && leb len 64))))

-- the tests of a mailbox, one by one
abbrev pub field_tests : Mailbox → List Bool
field_tests x = leb 1 x.id ∷ leb x.attributes 63 ∷ leb 1 x.uidvalidity ∷ leb 1 x.uidnext ∷ counter_ok (counter_of x) ∷ leb x.namelen 64 ∷ valid (name_of x) ∷ same (fold (name_of x)) (name_of x) ∷ zeros (drop x.namelen x.name) ∷ []

nine : (a b c d e f g h i : Bool) → every (a ∷ b ∷ c ∷ d ∷ e ∷ f ∷ g ∷ h ∷ i ∷ []) ≡ ((a && (b && (c && (d && (e && f))))) && (g && (h && i)))
nine false b c d e f g h i = refl
nine true false c d e f g h i = refl
nine true true false d e f g h i = refl
nine true true true false e f g h i = refl
nine true true true true false f g h i = refl
nine true true true true true false g h i = refl
nine true true true true true true false h i = refl
nine true true true true true true true false i = refl
nine true true true true true true true true true = refl
nine true true true true true true true true false = refl

mailbox-ok : (x : Mailbox) → mailbox_ok x ≡ (numbers_by x.id x.attributes x.namelen x.uidvalidity x.uidnext (counter_of x) && name_by x.namelen x.name)
mailbox-ok x = nine (leb 1 x.id) (leb x.attributes 63) (leb 1 x.uidvalidity) (leb 1 x.uidnext) (counter_ok (counter_of x)) (leb x.namelen 64) (valid (name_of x)) (same (fold (name_of x)) (name_of x)) (zeros (drop x.namelen x.name))

-- the columns have of a row all that is tested
module _ (ids attributes lens validities nexts counters names : List ℕ) (k : ℕ) where
  pub row_by_lem : mailbox_ok (row_at ids attributes lens validities nexts counters names k) ≡ (numbers_by (get_or ids k 0) (get_or attributes k 0) (get_or lens k 0) (get_or validities k 0) (get_or nexts k 0) (get_or counters k 0) && name_by (get_or lens k 0) (block names k))
  row_by_lem =
      let e : counter_of (row_at ids attributes lens validities nexts counters names k) ≡ get_or counters k 0 = omega arith in
      mailbox-ok (row_at ids attributes lens validities nexts counters names k)
      ∙ ap (λ (c : ℕ). numbers_by (get_or ids k 0) (get_or attributes k 0) (get_or lens k 0) (get_or validities k 0) (get_or nexts k 0) c && name_by (get_or lens k 0) (block names k)) e

  pub row_at_lem : (l : List Mailbox) → Laid l ids attributes lens validities nexts counters names → k < length l → mailbox_ok (row_at ids attributes lens validities nexts counters names k) ≡ mailbox_ok (get_or l k no_mailbox)
  row_at_lem l w h = row_by_lem ∙ (rw (w.id k h, w.attribute k h, w.len k h, w.validity k h, w.next k h, w.counter k h, w.name k h) (sym (mailbox-ok (get_or l k no_mailbox))))

pub row_in_lem : (c : Columns) (k : ℕ) (l : List Mailbox) → LaidIn l c → k < length l → mailbox_ok (row_in c k) ≡ mailbox_ok (get_or l k no_mailbox)
row_in_lem c k l w h = row_at_lem c.ids c.attributes c.lens c.validities c.nexts c.counters c.names k l w.1 h

pub row_in_by : (c : Columns) (k : ℕ) → mailbox_ok (row_in c k) ≡ (numbers_by (get_or c.ids k 0) (get_or c.attributes k 0) (get_or c.lens k 0) (get_or c.validities k 0) (get_or c.nexts k 0) (get_or c.counters k 0) && name_by (get_or c.lens k 0) (block c.names k))
row_in_by c k = row_by_lem c.ids c.attributes c.lens c.validities c.nexts c.counters c.names k

module _ (id a n v u c : ℕ) where
  pub long_enough : numbers_by id a n v u c ≡ true → n ≤ 64
  long_enough h =
      let p = and_r (leb 1 id) _ h in
      let q = and_r (leb a 63) _ p in
      let r = and_r (leb 1 v) _ q in
      let s = and_r (leb 1 u) _ r in
      leb-true n 64 (and_r (counter_ok c) _ s)

-- a row's octets, as code takes them from the run of names
pub row-part : (names : List ℕ) (k t : ℕ) → t ≡ 64 * k + 64 → take (t - 64 * k) (drop (64 * k) names) ≡ block names k
row-part names k t e = let z : t - 64 * k ≡ 64 = omega arith in rw z

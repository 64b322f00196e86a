-- What the fields of a record are known to be, once it is one. Assumes nothing.
use Rattle.std.specs.Prelude.{◌≡◌, List, [], ◌∷◌, true, ◌&&◌, ℕ, ◌%◌, eqb, leb, length, drop}
use Rattle.model.specs.Lists.{same}
use Rattle.model.specs.Laws.{and_l, and_r}
use Rattle.model.specs.Text.{little}
use Rattle.model.specs.Names.{Name, valid, fold}
use Rattle.model.specs.Records.{Kind, MB, DL, RN, SB, RT, ME, XP, FL, SE, CE, CM, DR, unknown}
use Rattle.model.specs.Records.{Field, id, attributes, quiet, uidvalidity, subscribed, rights, uid, flags, size, counter, width, in_range, layout, values, widths, all_in_range, tail_ok, body_ok}
use Rattle.model.specs.Records.{is_known, kind_of, body_of, framed, is_record, record_by, record_of, Record, create, delete, rename, subscribe, grant, arrive, expunge, reflag, select, ended, command, drained, record_of_none}
use Rattle.model.specs.Lawful.{counter_ok}
use Rattle.demands.specs.Lasting.NameLaws.{fold-valid, fold-fold}

-- a name as it is stored
pub record NameOk (n : Name) : Type 0 where
  pub is_valid : valid n ≡ true
  pub is_folded : same (fold n) n ≡ true

-- the facts that storing needs, by kind
abbrev pub InRange : Record → Type 0
InRange (create i a q v c n) = (leb 1 i ≡ true) × (leb a 63 ≡ true) × (leb 1 v ≡ true) × (counter_ok c ≡ true) × NameOk n
InRange (delete i q) = Unit {0}
InRange (rename i q n) = NameOk n
InRange (subscribe i s q) = leb s 1 ≡ true
InRange (grant i r) = leb r 48 ≡ true
InRange (arrive i u f z c) = (leb 1 u ≡ true) × (leb f 31 ≡ true) × (leb z 4294967295 ≡ true) × (counter_ok c ≡ true)
InRange (expunge i u c) = counter_ok c ≡ true
InRange (reflag i u f c) = (leb f 31 ≡ true) × (counter_ok c ≡ true)
InRange (select i) = Unit {0}
InRange (ended c) = Unit {0}
InRange (command t) = Unit {0}
InRange (drained n) = Unit {0}
InRange record_of_none = Unit {0}

-- a folded name that was valid
folded : (n : Name) → valid n ≡ true → NameOk (fold n)
folded n h = record { is_valid = fold-valid n h; is_folded = fold-fold n }

-- the first field's range, and the others'
module _ (f : Field) (fs : List Field) (b : List ℕ) (e : all_in_range (f ∷ fs) b ≡ true) where
  head : in_range f (little (width f) b) ≡ true
  head = and_l (in_range f (little (width f) b)) (all_in_range fs (drop (width f) b)) e

  rest : all_in_range fs (drop (width f) b) ≡ true
  rest = and_r (in_range f (little (width f) b)) (all_in_range fs (drop (width f) b)) e

module _ (k : Kind) (b : List ℕ) (e : body_ok (layout k) b ≡ true) where
  fields-ok : all_in_range (layout k).fields b ≡ true
  fields-ok = and_l (all_in_range (layout k).fields b) (tail_ok (layout k).tail (drop (widths (layout k).fields) b)) (and_r (leb (widths (layout k).fields) (length b)) _ e)

  tail-ok : tail_ok (layout k).tail (drop (widths (layout k).fields) b) ≡ true
  tail-ok = and_r (all_in_range (layout k).fields b) (tail_ok (layout k).tail (drop (widths (layout k).fields) b)) (and_r (leb (widths (layout k).fields) (length b)) _ e)

range_by : (k : Kind) (b : List ℕ) → body_ok (layout k) b ≡ true → InRange (record_by k (values (layout k).fields b) (drop (widths (layout k).fields) b))
range_by MB b e =
    let a = fields-ok MB b e in
    let c = rest id (attributes ∷ quiet ∷ uidvalidity ∷ counter ∷ []) b a in
    let d = rest quiet (uidvalidity ∷ counter ∷ []) (drop 1 (drop 2 b)) (rest attributes (quiet ∷ uidvalidity ∷ counter ∷ []) (drop 2 b) c) in
    let f = drop 1 (drop 1 (drop 2 b)) in (
      and_l (leb 1 (little 2 b)) _ (head id (attributes ∷ quiet ∷ uidvalidity ∷ counter ∷ []) b a),
      head attributes (quiet ∷ uidvalidity ∷ counter ∷ []) (drop 2 b) c,
      and_l (leb 1 (little 4 f)) _ (head uidvalidity (counter ∷ []) f d),
      head counter [] (drop 4 f) (rest uidvalidity (counter ∷ []) f d),
      folded (drop 16 b) (tail-ok MB b e),
    )
range_by DL b e = tt
range_by RN b e = folded (drop 3 b) (tail-ok RN b e)
range_by SB b e = head subscribed (quiet ∷ []) (drop 2 b) (rest id (subscribed ∷ quiet ∷ []) b (fields-ok SB b e))
range_by RT b e = and_r (eqb (little 1 (drop 2 b) % 16) 0) _ (head rights [] (drop 2 b) (rest id (rights ∷ []) b (fields-ok RT b e)))
range_by ME b e =
    let a = rest id (uid ∷ flags ∷ size ∷ counter ∷ []) b (fields-ok ME b e) in
    let c = rest uid (flags ∷ size ∷ counter ∷ []) (drop 2 b) a in
    let d = rest flags (size ∷ counter ∷ []) (drop 4 (drop 2 b)) c in (
      and_l (leb 1 (little 4 (drop 2 b))) _ (head uid (flags ∷ size ∷ counter ∷ []) (drop 2 b) a),
      head flags (size ∷ counter ∷ []) (drop 4 (drop 2 b)) c,
      head size (counter ∷ []) (drop 1 (drop 4 (drop 2 b))) d,
      head counter [] (drop 4 (drop 1 (drop 4 (drop 2 b)))) (rest size (counter ∷ []) (drop 1 (drop 4 (drop 2 b))) d),
    )
range_by XP b e = head counter [] (drop 4 (drop 2 b)) (rest uid (counter ∷ []) (drop 2 b) (rest id (uid ∷ counter ∷ []) b (fields-ok XP b e)))
range_by FL b e =
    let a = rest uid (flags ∷ counter ∷ []) (drop 2 b) (rest id (uid ∷ flags ∷ counter ∷ []) b (fields-ok FL b e)) in
    (head flags (counter ∷ []) (drop 4 (drop 2 b)) a, head counter [] (drop 1 (drop 4 (drop 2 b))) (rest flags (counter ∷ []) (drop 4 (drop 2 b)) a))
range_by SE b e = tt
range_by CE b e = tt
range_by CM b e = tt
range_by DR b e = tt
range_by unknown b e = tt

pub in_range_lem : (o : List ℕ) → is_record o ≡ true → InRange (record_of o)
unfolding record_of
in_range_lem o e = range_by (kind_of o) (body_of o) (and_r (framed o) (body_ok (layout (kind_of o)) (body_of o)) (and_r (is_known (kind_of o)) (framed o && body_ok (layout (kind_of o)) (body_of o)) e))

-- What serves a record by its subject leaves what the ladder says of the octets. Assumes nothing.
use Rattle.std.specs.Prelude.{◌≡◌, refl, Bool, true, false, cond, ◌&&◌, Option, Some, None, List, ℕ, ◌-◌, length, take, drop, get_or}
use Rattle.std.proofs.Common.{ap, sym, ◌∙◌, arith, length-drop, take_all}
use Rattle.model.specs.Records.{record_of, kind_of, is_known, framed, body_ok, body_of, layout, command}
use Rattle.model.specs.Memory.{Memory, boxes, no_mailbox, place, known, selected_box}
use Rattle.model.specs.Laws.{tf, and_l}
use Rattle.model.specs.declared.Mailbox.{Mailbox}
use Rattle.model.specs.declared.Counts.{Counts}
use Rattle.model.specs.declared.Session.{Session}
use Rattle.demands.specs.Lasting.Law.{Law}
use Rattle.table_mailboxes.specs.Columns.{Column, Names}
use Rattle.table_mailboxes.specs.Rows.{place_in, place_some, place_none, place_is}
use Rattle.table_mailboxes.specs.Whole.{LaidIn}
use Rattle.table_mailboxes.specs.declared.Columns.{Columns}
use Rattle.record_read.specs.Kinds.{kind_for}
use Rattle.record_read.specs.Reading.{Taken}
use Rattle.record_read.specs.Laws.{Says, command-says}
use Rattle.record_read.specs.declared.Kind.{Kind}
use Rattle.record_read.specs.declared.Kind.TheVariants.{Command, Unknown}
use Rattle.record_read.specs.declared.Received.{Received}
use Rattle.record_kind.specs.Subjects.{subject_of, sought, kind_by, kind_is}
use Rattle.record_kind.specs.Serving.{InRange, Follows, Serves as Kindly, is-selected}
use Rattle.record_kind.specs.declared.Subject.{Subject}
use Rattle.record_outcome.specs.Coming.{Came, Lends, Placed, Found, Comes, ladder, row_of}
use Rattle.record_outcome.specs.declared.Place.{Place}

-- what a kind's function leaves, for every lawful memory whose words, counts, session, queue and used rows those are: r is what the record says, and
-- `found` the mailbox that it needs, if there is one
abbrev pub Serves : Received → Option Place → ℕ → Columns → List ℕ → Counts → Session → List ℕ → List ℕ → Came → List ℕ → List ℕ → Type 0
Serves r found lent c ws counts s q o z ws' q' =
    (m : Memory) → Lends m ws counts s q → Law m → length m.rows ≡ lent → Found m (sought r.kind (get_or r.values 0 0) s.selected) found
    → LaidIn (boxes m) c → Comes m (ladder m (record_of o)) z ws ws' q'

-- ---- the mailbox that was found
is_one : (b : Bool) (j : ℕ) {k : ℕ} → Some k ≡ cond b (Some j) None → b ≡ true
is_one true j e = refl
is_one false j e = absurd (let z : ⊥ = cc in z)

pub found_some : (m : Memory) (i k : ℕ) (x : Mailbox) → Some k ≡ place_in i (boxes m) → x ≡ get_or (boxes m) k no_mailbox → Found m i (Some (record { at = k; row = x }))
found_some m i k x e is =
    let at = (place_some i (boxes m) k e).0 in
    (is_one (known i (boxes m)) (place i (boxes m)) (e ∙ place_is i (boxes m)), record { at = at; is = is ∙ ap (λ (j : ℕ). get_or (boxes m) j no_mailbox) at })

pub found_none : (m : Memory) (i : ℕ) → None ≡ place_in i (boxes m) → Found m i None
found_none m i e = (place_none i (boxes m) e).1

-- what stands from a place on
pub rest : (o : List ℕ) (n : ℕ) → take (length o - n) (drop n o) ≡ drop n o
rest o n = take_all (length o - n) (drop n o) (let z = length-drop n o in omega arith)

-- a kind by its subject
pub by_subject : {kind : Kind} {r : Subject} (p : Subject) → r ≡ subject_of kind → r ≡ p → kind ≡ kind_by p
by_subject {kind} p is told = kind_is kind ∙ ap kind_by (sym is ∙ told)

-- a record's kind by its name
pub says_of : (k : Kind) {kind : Kind} {o v : List ℕ} {tail : ℕ} → kind ≡ k → Says kind o v tail → Says k o v tail
says_of k e s = rw e at s

-- its numbers, and what follows them
pub in_range_lem : {k : Kind} {o v : List ℕ} {tail : ℕ} → Says k o v tail → InRange k v
in_range_lem s = s.bounds

pub follows : {k : Kind} {o v t : List ℕ} {tail : ℕ} → t ≡ drop tail o → Says k o v tail → Follows k t
follows r s = rw r s.following

module _ {r : Received} (found : Option Place) {lent : ℕ} (cols : Columns) {ws : List ℕ} {counts : Counts} {s : Session} {q o : List ℕ} {z : Came} (taken : Taken o r) where
  -- about messages, or about the session
  pub served : {j : Kind} {ws' q' : List ℕ} → r.kind ≡ j → ((m : Memory) (t : List ℕ) → Kindly m j r.values t found ws counts s q z ws' q')
      → Serves r found lent cols ws counts s q o z ws' q'
  served e f = λ m lends law len w laid. rw (taken.says.says, e) (f m (drop r.tail o) lends law (rw e at w))

  -- about mailboxes: whose rows are lent, and by which names they go
  pub placed_by : {j : Kind} {t ws' q' : List ℕ} → t ≡ drop r.tail o → r.kind ≡ j
      → ((m : Memory) → length m.rows ≡ lent → length (boxes m) ≡ cols.n → Column (λ (y : Mailbox). y.id) (boxes m) cols.ids → Column (λ (y : Mailbox). y.attributes) (boxes m) cols.attributes
      → Column (λ (y : Mailbox). y.namelen) (boxes m) cols.lens → Names (boxes m) cols.names → Kindly m j r.values t found ws counts s q z ws' q')
      → Serves r found lent cols ws counts s q o z ws' q'
  placed_by p e f = λ m lends law len w laid. rw (taken.says.says, e, ← p) (f m len laid.0 laid.1.id laid.1.attribute laid.1.len laid.1.name lends law (rw e at w))

  pub answered : {t ws' q' : List ℕ} {x : Mailbox} → t ≡ drop r.tail o → r.kind ≡ Command → x ≡ row_of found
      → ((m : Memory) → Lends m ws counts s q → Law m → LaidIn (boxes m) cols → x ≡ selected_box m → Comes m (ladder m (command t)) z ws ws' q')
      → Serves r found lent cols ws counts s q o z ws' q'
  answered p e is f =
      λ m lends law len w laid. rw (command-says (says_of Command e taken.says)) (rw (← p) (f m lends law laid (is ∙ is-selected m found lends (rw e at w))))

  -- no record is of no kind
  pub nothing : {ws' q' : List ℕ} → r.kind ≡ Unknown → Serves r found lent cols ws counts s q o z ws' q'
  nothing e =
      tf (is_known (kind_of o)) (and_l (is_known (kind_of o)) (framed o && body_ok (layout (kind_of o)) (body_of o)) taken.says.is) (sym (ap is_known taken.kind) ∙ ap (λ (j : Kind). is_known (kind_for j)) e)

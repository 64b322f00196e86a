-- `points_of`: the points of a record, by its kind. Assumes nothing.
use mathlib.Core.Path.{refl, ◌∙◌, ap, ap₂}
use mathlib.Core.Bool.{true, false}
use mathlib.Core.List.{List}
use lib.ListN.{get_or}
use Rattle.std.specs.Prelude.{◌≡◌, ◌⊎◌, ℕ, Some, None}
use mathlib.Core.Logic.{inl, inr}
use Rattle.model.specs.Reasoned.{changes}
use Rattle.record_read.specs.Kinds.{kind_for}
use Rattle.record_read.specs.declared.Kind.{Kind}
use Rattle.model.specs.Names.{Name, fold}
use Rattle.model.specs.Records.{record_by, create, delete, rename, subscribe, grant, arrive, expunge, reflag}
use Rattle.model.specs.Memory.{with_name, the_mailbox}
use Rattle.model.specs.Events.{new_box}
use Rattle.model.specs.Due.{is_quiet}
use Rattle.model.specs.declared.Mailbox.{Mailbox}
use Rattle.model.specs.declared.Session.{Session}
use Rattle.record_read.specs.declared.Kind.TheVariants.{Create, Delete, Rename, Subscribe, Grant, Arrive, Expunge, Reflag, Select, Ended, Command, Drained, Unknown}
use Rattle.reason_points.specs.Showing.{plain, either_of, subscribing_of, named_of, granting_of, arriving_of, expunging_of, reflagging_of, created_shown, deleted_shown, renamed_shown, subscribed_shown, granted_shown, arrived_shown, expunged_shown, reflagged_shown, still_shown, shows, argument-valid}
use Rattle.reason_points.specs.Kinds.{ranged, follows, told_as}
use Rattle.reason_points.proofs.points_of.Goals as goal

pub create-requires : goal.create-requires
create-requires c =
    let r = ranged Create c.in-Create.is c.args.v c.requires.0 in
    (r.0.1, r.1.0, r.1.1.1.0.1)

pub subscribe-requires : goal.subscribe-requires
subscribe-requires c =
    let r = ranged Subscribe c.in-Subscribe.is c.args.v c.requires.0 in
    r.1.0

pub grant-requires : goal.grant-requires
grant-requires c =
    let r = ranged Grant c.in-Grant.is c.args.v c.requires.0 in
    r.1.0.1

pub arrive-requires : goal.arrive-requires
arrive-requires c =
    let r = ranged Arrive c.in-Arrive.is c.args.v c.requires.0 in
    r.0.1

pub expunge-requires : goal.expunge-requires
expunge-requires c =
    let r = ranged Expunge c.in-Expunge.is c.args.v c.requires.0 in
    r.0.1

pub reflag-requires : goal.reflag-requires
reflag-requires c =
    let r = ranged Reflag c.in-Reflag.is c.args.v c.requires.0 in
    r.0.1

pub returns-in-Create : goal.returns-in-Create
returns-in-Create c =
    let i = get_or c.args.v 0 0 in let j = get_or c.args.v 1 0 in let u = get_or c.args.v 2 0 in let v = get_or c.args.v 3 0 in let w = get_or c.args.v 4 0 in let t = fold c.args.name.now in
    let valid = (follows Create c.in-Create.is c.args.name.now c.requires.1).0 in
    told_as Create c.in-Create.is c.args.v c.args.name.now (λ m e f.
    c.create.ensures ∙ (ap (λ (n : Name). named_of c.args.s.now c.args.rows.now (is_quiet u) true (new_box i j v w n)) (argument-valid c.args.name.now valid)
    ∙ shows c.args.s.now c.args.rows.now (λ (s : Session) (r : List Mailbox). named_of s r (is_quiet u) true (new_box i j v w t)) (create i j u v w t) (λ k. created_shown k i j u v w t) m e f))

pub returns-in-Delete : goal.returns-in-Delete
returns-in-Delete c =
    let i = get_or c.args.v 0 0 in let j = get_or c.args.v 1 0 in
    told_as Delete c.in-Delete.is c.args.v c.args.name.now (λ m e f.
    c.named.ensures ∙ (ap (named_of c.args.s.now c.args.rows.now (is_quiet j) true) c.row_of.ensures
    ∙ shows c.args.s.now c.args.rows.now (λ (s : Session) (r : List Mailbox). named_of s r (is_quiet j) true (the_mailbox i r)) (delete i j) (λ k. deleted_shown k i j) m e f))

pub returns-in-Rename : goal.returns-in-Rename
returns-in-Rename c =
    let i = get_or c.args.v 0 0 in let j = get_or c.args.v 1 0 in let t = fold c.args.name.now in
    let valid = (follows Rename c.in-Rename.is c.args.name.now c.requires.1).0 in
    told_as Rename c.in-Rename.is c.args.v c.args.name.now (λ m e f.
    c.rename.ensures ∙ (ap₂ (λ (z : Mailbox) (n : Name). either_of c.args.s.now (is_quiet j) true z (Some (with_name z n))) c.row_of.ensures (argument-valid c.args.name.now valid)
    ∙ shows c.args.s.now c.args.rows.now (λ (s : Session) (r : List Mailbox). either_of s (is_quiet j) true (the_mailbox i r) (Some (with_name (the_mailbox i r) t))) (rename i j t) (λ k. renamed_shown k i j t) m e f))

pub returns-in-Subscribe : goal.returns-in-Subscribe
returns-in-Subscribe c =
    let i = get_or c.args.v 0 0 in let j = get_or c.args.v 1 0 in let u = get_or c.args.v 2 0 in
    told_as Subscribe c.in-Subscribe.is c.args.v c.args.name.now (λ m e f.
    c.subscribe.ensures ∙ (ap (λ (z : Mailbox). subscribing_of c.args.s.now (is_quiet u) z j) c.row_of.ensures
    ∙ shows c.args.s.now c.args.rows.now (λ (s : Session) (r : List Mailbox). subscribing_of s (is_quiet u) (the_mailbox i r) j) (subscribe i j u) (λ k. subscribed_shown k i j u) m e f))

pub returns-in-Grant : goal.returns-in-Grant
returns-in-Grant c =
    let i = get_or c.args.v 0 0 in let j = get_or c.args.v 1 0 in
    told_as Grant c.in-Grant.is c.args.v c.args.name.now (λ m e f.
    c.grant.ensures ∙ (ap (λ (z : Mailbox). granting_of c.args.s.now c.args.rows.now z j) c.row_of.ensures
    ∙ shows c.args.s.now c.args.rows.now (λ (s : Session) (r : List Mailbox). granting_of s r (the_mailbox i r) j) (grant i j) (λ k. granted_shown k i j) m e f))

pub returns-in-Arrive : goal.returns-in-Arrive
returns-in-Arrive c =
    let i = get_or c.args.v 0 0 in let j = get_or c.args.v 1 0 in let u = get_or c.args.v 2 0 in let v = get_or c.args.v 3 0 in let w = get_or c.args.v 4 0 in
    told_as Arrive c.in-Arrive.is c.args.v c.args.name.now (λ m e f.
    c.arrive.ensures ∙ (ap (arriving_of c.args.s.now i) c.row_of.ensures
    ∙ shows c.args.s.now c.args.rows.now (λ (s : Session) (r : List Mailbox). arriving_of s i (the_mailbox i r)) (arrive i j u v w) (λ k. arrived_shown k i j u v w) m e f))

pub returns-in-Expunge : goal.returns-in-Expunge
returns-in-Expunge c =
    let i = get_or c.args.v 0 0 in let j = get_or c.args.v 1 0 in let u = get_or c.args.v 2 0 in
    told_as Expunge c.in-Expunge.is c.args.v c.args.name.now (λ m e f.
    c.expunge.ensures ∙ (ap (λ (z : Mailbox). expunging_of c.args.s.now i z j) c.row_of.ensures
    ∙ shows c.args.s.now c.args.rows.now (λ (s : Session) (r : List Mailbox). expunging_of s i (the_mailbox i r) j) (expunge i j u) (λ k. expunged_shown k i j u) m e f))

pub returns-in-Reflag : goal.returns-in-Reflag
returns-in-Reflag c =
    let i = get_or c.args.v 0 0 in let j = get_or c.args.v 1 0 in let u = get_or c.args.v 2 0 in let v = get_or c.args.v 3 0 in
    told_as Reflag c.in-Reflag.is c.args.v c.args.name.now (λ m e f.
    c.reflag.ensures ∙ (ap (λ (z : Mailbox). reflagging_of c.args.s.now i z j) c.row_of.ensures
    ∙ shows c.args.s.now c.args.rows.now (λ (s : Session) (r : List Mailbox). reflagging_of s i (the_mailbox i r) j) (reflag i j u v) (λ k. reflagged_shown k i j u v) m e f))

-- the other records change nothing
still : (k : Kind) (v t : List ℕ) → (k ≡ Select) ⊎ ((k ≡ Ended) ⊎ ((k ≡ Command) ⊎ ((k ≡ Drained) ⊎ (k ≡ Unknown)))) → changes (record_by (kind_for k) v t) ≡ false
still k v t (inl e) = rw e refl
still k v t (inr (inl e)) = rw e refl
still k v t (inr (inr (inl e))) = rw e refl
still k v t (inr (inr (inr (inl e)))) = rw e refl
still k v t (inr (inr (inr (inr e)))) = rw e refl

pub returns-in-Select : goal.returns-in-Select
returns-in-Select c =
    let r = record_by (kind_for c.args.kind) c.args.v c.args.name.now in
    λ m e f. c.none.ensures ∙ shows c.args.s.now c.args.rows.now (λ (s : Session) (l : List Mailbox). plain false false false false None) r (λ k. still_shown k r (still c.args.kind c.args.v c.args.name.now c.in-Select.is)) m e f

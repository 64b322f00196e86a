-- `serve`: the function of each kind says what the rules make of a record of that kind; a name that follows is a valid one. Assumes nothing.
use mathlib.Core.Path.{ap}
use Rattle.record_read.specs.declared.Kind.TheVariants.{Create, Delete, Rename, Subscribe, Grant}
use Rattle.record_kind.specs.Subjects.{mailbox_kind}
use Rattle.record_kind.specs.Serving.{range_of, follows_of, serves_of}
use Rattle.step_mailbox.proofs.serve.Goals as goal

pub create-requires : goal.create-requires
create-requires c =
    let told = ap mailbox_kind c.in-Create.is in
    let r = range_of Create told c.args.v c.requires.1 in
    (c.requires.0.room, c.requires.0.rows, r.0.1, r.1.0, r.1.1.0, r.1.1.1.0.1)

pub delete-requires : goal.delete-requires
delete-requires c =
    let told = ap mailbox_kind c.in-Delete.is in
    let r = range_of Delete told c.args.v c.requires.1 in
    (c.requires.0, r.1.0)

pub rename-requires : goal.rename-requires
rename-requires c =
    let told = ap mailbox_kind c.in-Rename.is in
    let r = range_of Rename told c.args.v c.requires.1 in
    (c.requires.0.room, r.1.0)

pub subscribe-requires : goal.subscribe-requires
subscribe-requires c =
    let told = ap mailbox_kind c.in-Subscribe.is in
    let r = range_of Subscribe told c.args.v c.requires.1 in
    (c.requires.0.room, r.1.0, r.1.1.0)

pub grant-requires : goal.grant-requires
grant-requires c =
    let told = ap mailbox_kind c.in-Grant.is in
    let r = range_of Grant told c.args.v c.requires.1 in
    (c.requires.0.room, r.1.0.1)

pub returns-in-Create : goal.returns-in-Create
returns-in-Create c =
    let told = ap mailbox_kind c.in-Create.is in
    let name = follows_of Create told c.args.name.now c.requires.2 in
    λ m len n ids attributes lens names.
    serves_of Create told c.args.v c.args.name.now c.args.found (λ lends law w. c.create.ensures m c.args.words.now lends len law w n ids attributes lens names name.0)

pub returns-in-Delete : goal.returns-in-Delete
returns-in-Delete c =
    let told = ap mailbox_kind c.in-Delete.is in
    λ m len n ids attributes lens names. serves_of Delete told c.args.v c.args.name.now c.args.found (λ lends law w. c.delete.ensures m lends law w n attributes lens names)

pub returns-in-Rename : goal.returns-in-Rename
returns-in-Rename c =
    let told = ap mailbox_kind c.in-Rename.is in
    let name = follows_of Rename told c.args.name.now c.requires.2 in
    λ m len n ids attributes lens names.
    serves_of Rename told c.args.v c.args.name.now c.args.found (λ lends law w. c.rename.ensures m c.args.words.now lends law w n ids lens names name.0)

pub returns-in-Subscribe : goal.returns-in-Subscribe
returns-in-Subscribe c =
    let told = ap mailbox_kind c.in-Subscribe.is in
    λ m len n ids attributes lens names. serves_of Subscribe told c.args.v c.args.name.now c.args.found (c.subscribe.ensures m c.args.words.now)

pub returns-in-Grant : goal.returns-in-Grant
returns-in-Grant c =
    let told = ap mailbox_kind c.in-Grant.is in
    λ m len n ids attributes lens names. serves_of Grant told c.args.v c.args.name.now c.args.found (λ lends law w. c.grant.ensures m c.args.words.now lends law w n attributes lens names)

-- `flag`: each end comes to what the ladder says of `FL`. Assumes nothing.
use mathlib.Core.Path.{refl, ap, sym, ◌∙◌}
use native.Mathlib.Omega.{arith}
use lib.ListN.{length}
use Rattle.std.proofs.Common.{Ok}
use Rattle.model.specs.Records.{reflag}
use Rattle.model.specs.Rules.{accepted}
use Rattle.laws.specs.Room.{sizes}
use Rattle.record_outcome.specs.Laws.{none_refused}
use Rattle.record_outcome.specs.declared.Outcome.{Outcome}
use Rattle.record_message.specs.Met.{some_free, found_low}
use Rattle.record_message.specs.Kinds.{no_mailbox_lem, not-above, no-message, flag_done}
use Rattle.record_message.proofs.flag.Goals as goal

pub returns-in_err-place : goal.returns-in_err-place
returns-in_err-place c = λ m lent law w. no_mailbox_lem m c.args.words.now c.args.counts c.args.s.now c.args.queue.now lent law c.args.id c.args.found w c.args.uid.0 c.args.counter (accepted m (reflag c.args.id c.args.uid.0 c.args.flags c.args.counter)) _ c.in_err-place.ensures.ok_part
    (none_refused _ c.in_err-place.ensures.ok_part c.in_err-place.ensures.value c.from_residual.ensures.1)

pub returns-then-is_stale : goal.returns-then-is_stale
returns-then-is_stale c =
    λ m lent law w. not-above m c.args.words.now c.args.counts c.args.s.now c.args.queue.now lent law c.args.id c.args.found w c.args.uid.0 c.args.counter _ c.in_ok-place.place c.in_ok-place.ensures.ok_part (accepted m (reflag c.args.id c.args.uid.0 c.args.flags c.args.counter)) (sym c.is_stale.ensures ∙ c.if-is_stale.true) refl

pub returns-in_err-k : goal.returns-in_err-k
returns-in_err-k c =
    λ m lent law w. no-message m c.args.words.now c.args.counts c.args.s.now c.args.queue.now lent law c.args.id c.args.found w c.args.uid.0 c.args.counter _ c.in_ok-place.place c.in_ok-place.ensures.ok_part _ c.find.ensures (accepted m (reflag c.args.id c.args.uid.0 c.args.flags c.args.counter)) c.in_err-k.ensures.ok_part
    (none_refused _ c.in_err-k.ensures.ok_part c.in_err-k.ensures.value c.from_residual-in_err-k.ensures.1)

pub flag-left-requires : goal.flag-left-requires
flag-left-requires c =
    let z = sizes (length c.args.queue.now) c.args.counts.filled c.args.s.now c.requires.room in
    let low = z.low in
    let high = z.high in
    let most = z.filled in
    (found_low c.args.words.now c.args.counts.messages c.args.id c.args.uid.0 c.requires.words c.find.ensures c.in_ok-k.ensures.ok_part, c.requires.words, omega (arith, low), omega (arith, high), omega (arith, high, most), some_free (length c.args.queue.now) c.args.counts.filled c.args.s.now c.requires.room)

pub returns : goal.returns
returns c =
    λ m lent law w. flag_done m c.args.words.now c.args.counts c.args.s.now c.args.queue.now lent law c.args.id c.args.found w c.args.uid.0 c.args.counter _ c.in_ok-place.place c.in_ok-place.ensures.ok_part _ c.find.ensures
    (sym c.is_stale.ensures ∙ c.if-is_stale.false) c.with_counter-row.result c.with_counter-row.ensures _ c.flag-left.result.used _ c.flag-left.result.kept.session c.flag-left.result.kept.filled _ c.in_ok-k.ensures.ok_part (ap (λ (j : Outcome). Ok j) c.put_left.ensures) c.args.flags c.flag-left.ensures

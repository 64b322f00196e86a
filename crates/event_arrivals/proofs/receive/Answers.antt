-- `receive`: the message is stored; all that is new is announced, or STATUS is told, or neither. Assumes nothing.
use Rattle.std.proofs.Common.{arith, refl, sym}
use Rattle.std.specs.Prelude.{◌+◌, ◌&&◌, not}
use Rattle.model.specs.Memory.{both_rights, with_next}
use Rattle.model.specs.Groups.{asked_of}
use Rattle.table_messages.specs.Words.{messages, messages-take, messages-used}
use Rattle.match_groups.specs.Asking.{asks_bit}
use Rattle.event_message.specs.After.{put_one, status_leaves, news_leaves}
use Rattle.event_message.specs.Receiving.{soon_some, receive_as}
use Rattle.event_message.specs.Shown.{shows_of}
use Rattle.event_arrivals.proofs.receive.Goals as goal

pub announce-kept-requires : goal.announce-kept-requires
announce-kept-requires c =
    let w = messages-used (c.args.used + 1) c.put.new.words (omega arith) in
    (omega arith, c.requires.2, c.requires.3, c.requires.5 (soon_some c.args.s.now c.is_soon.result c.is_chosen-chosen.result (both_rights c.args.x.now) c.is_soon.ensures c.if-is_soon.true))

pub returns-then-is_soon : goal.returns-then-is_soon
returns-then-is_soon c =
    let elsewhere = not c.is_chosen-chosen.result && (both_rights c.args.x.now && asked_of c.args.s.now c.args.x.now (asks_bit 0)) in (
      refl,
      rw (sym (receive_as (messages c.args.words.now) c.args.used c.args.queue.now c.args.s.now c.args.filled c.args.x.now c.args.uid.0 c.args.flags c.args.size c.args.counter (c.args.uid.0 + 1) c.fresh-e.result c.is_chosen-chosen.result c.is_soon.result elsewhere (shows_of c.args.s.now)
          refl (rw c.from.ensures at c.fresh-e.ensures) c.is_chosen-chosen.ensures c.is_soon.ensures refl refl))
          (news_leaves (messages c.args.words.now) c.args.used c.args.queue.now c.args.s.now c.args.filled (with_next c.args.x.now (c.args.uid.0 + 1)) c.fresh-e.result c.is_soon.result elsewhere (shows_of c.args.s.now) c.args.words.now _ _ _ _ c.if-is_soon.true
          (put_one c.args.words.now _ c.args.used c.fresh-e.result c.put.ensures c.requires.0) (rw (messages-take (c.args.used + 1) c.put.new.words) at c.announce-kept.ensures)),
    )

pub returns : goal.returns
returns c = (
  refl,
  rw (sym (receive_as (messages c.args.words.now) c.args.used c.args.queue.now c.args.s.now c.args.filled c.args.x.now c.args.uid.0 c.args.flags c.args.size c.args.counter (c.args.uid.0 + 1) c.fresh-e.result c.is_chosen-chosen.result c.is_soon.result c.is_told-on.result (shows_of c.args.s.now)
      refl (rw c.from.ensures at c.fresh-e.ensures) c.is_chosen-chosen.ensures c.is_soon.ensures c.is_told-on.ensures refl))
      (status_leaves (messages c.args.words.now) c.args.used c.args.queue.now c.args.s.now c.args.filled (with_next c.args.x.now (c.args.uid.0 + 1)) c.fresh-e.result (with_next c.args.x.now (c.args.uid.0 + 1)) c.is_soon.result c.is_told-on.result (shows_of c.args.s.now) c.args.words.now _ _ _ _ c.if-is_soon.false refl
      (put_one c.args.words.now _ c.args.used c.fresh-e.result c.put.ensures c.requires.0) (rw (messages-take (c.args.used + 1) c.put.new.words) at c.tell_status-kept.ensures)),
)

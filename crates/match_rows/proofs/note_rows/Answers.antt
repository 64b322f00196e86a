-- `note_rows`: the marks say of each row what the groups ask; the loop keeps that every row before k is noted. Assumes nothing.
use Rattle.std.proofs.Common.{rules, arith, ◌≡◌, ap, ◌∙◌, refl, ℕ, Bool, ◌<◌, get_or, true, false}
use Rattle.std.specs.Int.{from_bool}
use Rattle.model.specs.Groups.{asked, asks_messages, asks_mailbox}
use Rattle.table_mailboxes.specs.Columns.{name_at, noted}
use Rattle.match_rows.specs.Notes.{Notes, notes_next}
use Rattle.match_rows.specs.Picked.{picked_by, status_by}
use Rattle.match_rows.specs.Marks.{fresh}
use Rattle.match_rows.proofs.note_rows.Goals as goal

noted_byte : (b : Bool) → noted (from_bool b) ≡ b
noted_byte true = refl
noted_byte false = refl

pub loop-k-preserved : goal.loop-k-preserved
loop-k-preserved c =
    let h : c.loop-k.k < c.args.cols.now.n = c.loop-k-test.true in
    let few = c.args.cols.now.few in
    let a = get_or c.args.cols.now.attributes c.loop-k.k 0 in
    let n = name_at c.args.cols.now.lens c.args.cols.now.names c.loop-k.k in
    let messages : get_or c.mark_asked.new.marks c.loop-k.k false ≡ asked c.args.s.now n a asks_messages = fresh 64 c.loop-k.k (omega arith) (c.mark_asked.ensures c.loop-k.k h) in
    let mailbox : get_or c.mark_asked-2.new.marks c.loop-k.k false ≡ asked c.args.s.now n a asks_mailbox = fresh 64 c.loop-k.k (omega arith) (c.mark_asked-2.ensures c.loop-k.k h) in
    let on = c.is_selected-on.ensures c.args.s.now refl in
    let told : noted c.from.result ≡ c.is_picked.result = rw c.from.ensures (noted_byte c.is_picked.result) in
    let status : noted c.from-in-loop-k.result ≡ c.has_status.result = rw c.from-in-loop-k.ensures (noted_byte c.has_status.result) in
    notes_next (λ (j p q : ℕ). Notes c.args.s.now c.args.wanted (get_or c.args.cols.now.ids j 0) (get_or c.args.cols.now.attributes j 0) (name_at c.args.cols.now.lens c.args.cols.now.names j) p q)
    c.loop-k.picked c.loop-k.asks c.loop-k.k _ _ (search rules) (search rules) c.loop-k.invariant record {
      told = told ∙ (c.is_picked.ensures c.args.s.now n c.selected_asks_any-any.ensures messages mailbox ∙ ap (picked_by c.args.s.now n a) on);
      status = status ∙ (c.has_status.ensures c.args.s.now n a messages ∙ ap (λ (b : Bool). status_by c.args.s.now n a b c.args.wanted) on);
    }

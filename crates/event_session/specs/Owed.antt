-- NOTIFY SET's first part: where all that class 1 owes fits, its lines written together leave what the end of such a command leaves. Assumes nothing.
use Rattle.std.specs.Prelude.{◌≡◌, Bool, true, cond, List, [], ◌++◌, ℕ, ◌-◌, leb}
use Rattle.std.proofs.Math.Path.{ap}
use Rattle.std.proofs.Common.{sym, ◌∙◌, append-nil}
use Rattle.model.specs.Memory.{Memory, filled, selected_box, both_rights}
use Rattle.model.specs.Lines.{Line}
use Rattle.model.specs.Queue.{room, fitting, say}
use Rattle.model.specs.View.{owed, owed_lines}
use Rattle.model.specs.Rules.{accepted}
use Rattle.demands.specs.Lasting.Law.{Law}
use Rattle.laws.specs.Fitting.{size, fitting-append}
use Rattle.line_message.specs.Whole.{owed_text, owed-text}
use Rattle.model.specs.View.{selected_messages}
use Rattle.model.specs.Lines.{render_all}
use Rattle.event_session.specs.After.{left}
use Rattle.event_session.specs.Ending.{end_after}
use Rattle.event_session.specs.Closing.{end-accepted}

-- lines that fit together all fit
pub fitting_all : (free : ℕ) (ls : List Line) → leb (size ls) free ≡ true → fitting free ls ≡ ls
unfolding fitting
fitting_all free ls h =
    ap (fitting free) (sym (append-nil ls))
    ∙ (fitting-append free ls []
    ∙ (ap (λ (b : Bool). cond b (ls ++ fitting (free - size ls) []) (fitting free ls)) h
    ∙ append-nil ls))

module _ (m : Memory) (law : Law m) where
  -- what `end_command` of class 1 leaves
  pub owed_said : leb (size (owed m 1)) (room m) ≡ true
      → say m (owed m 1) ≡ left m (end_after m.entries m.counts.messages m.queue m.session (filled m) true (both_rights (selected_box m)) (selected_box m).uidnext)
  unfolding accepted
  owed_said h = ap (say m) (sym (fitting_all (room m) (owed m 1) h)) ∙ end-accepted m law 1

  -- what `line_message::put_owed` measures and writes
  pub owed_is-text : both_rights (selected_box m) ≡ true → owed_text m.session.told (selected_messages m) ≡ render_all (owed m 1)
  owed_is-text r = owed-text m ∙ sym (ap (λ (b : Bool). render_all (cond b (owed_lines m 1) [])) r)

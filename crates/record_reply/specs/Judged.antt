-- A command as it is judged: its verb and its reply are those of the rules, for the session that is lent. Assumes nothing.
use Rattle.std.specs.Prelude.{◌≡◌, refl, true, false, not, List, ℕ, eqb}
use Rattle.std.proofs.Common.{ap, sym, ◌∙◌}
use Rattle.model.specs.Commands.{command_of}
use Rattle.model.specs.Limits.{limits}
use Rattle.model.specs.Memory.{Memory}
use Rattle.model.specs.Answering.{some_selected, verb, is_accepted, first_reply, reply}
use Rattle.model.specs.declared.Counts.{Counts}
use Rattle.model.specs.declared.Session.{Session}
use Rattle.model.specs.declared.Reply.{Reply}
use Rattle.model.specs.declared.Reply.TheVariants.{Bad, BadEvent, Unsupported, BadCharset, TooLarge, Accepted}
use Rattle.model.specs.Laws.{tf}
use Rattle.read_commands.specs.Judging.{word_of, judged_of}
use Rattle.read_commands.specs.declared.Judged.{Judged}
use Rattle.line_answer.specs.Answered.{judged-verb, judged-reply, reply_first}
use Rattle.record_outcome.specs.Coming.{Lends}

module _ (m : Memory) (ws : List ℕ) (k : Counts) (s : Session) (q t : List ℕ) (lent : Lends m ws k s q) (j : Judged) (e : j ≡ judged_of limits (not (eqb s.selected 0)) (command_of t)) where
  as_judged : j ≡ judged_of limits (some_selected m) (command_of t)
  as_judged = e ∙ ap (λ (o : Session). judged_of limits (not (eqb o.selected 0)) (command_of t)) (sym lent.session)

  pub verb_judged : word_of j.verb ≡ verb (command_of t)
  verb_judged = judged-verb m t j as_judged

  pub reply_judged : is_accepted j.reply ≡ false → j.reply ≡ reply m t
  reply_judged f = judged-reply m t j as_judged ∙ sym (reply_first m t (ap is_accepted (sym (judged-reply m t j as_judged)) ∙ f))

  pub accepted_judged : is_accepted j.reply ≡ true → first_reply m t ≡ Accepted
  accepted_judged f = sym (judged-reply m t j as_judged) ∙ only j.reply f
    where
      only : (r : Reply) → is_accepted r ≡ true → r ≡ Accepted
      only Bad f = tf false f refl
      only BadEvent f = tf false f refl
      only Unsupported f = tf false f refl
      only BadCharset f = tf false f refl
      only TooLarge f = tf false f refl
      only Accepted f = refl

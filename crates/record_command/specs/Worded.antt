-- Behind ESEARCH stands no NOTIFY. Assumes nothing.
use Rattle.std.proofs.Math.Path.{◌≡◌}
use Rattle.std.specs.Prelude.{Bool, true, false, cond, ℕ, ◌+◌, eqb, length}
use mathlib.Core.List.{List, []}
use Rattle.std.proofs.Common.{arith}
use Rattle.model.specs.Requests.{notify, esearch, none, Command}
use Rattle.model.specs.Reading.{Parsed, bad, ok, and_then, after_by, stands, list_at}
use Rattle.model.specs.NotifyGrammar.{filter_at}
use Rattle.model.specs.SearchGrammar.{returns_at, charset_at, option_at, program_at, search_at}
use Rattle.model.specs.Commands.{command_by}
use Rattle.model.specs.Answering.{verb}
use Rattle.read_commands.specs.Judging.{whole, whole_by}

-- ---- what is no NOTIFY
abbrev pub Else : Parsed Command → Type 0
Else x = verb x ≡ notify → ⊥

else-bad : Else bad
else-bad e = let z : ◌≡◌ {A = ℕ} 0 1 = cc in omega arith

else_then : {A : Type 0} (x : Parsed A) (f : ℕ → A → Parsed Command) → ((p : ℕ) (a : A) → Else (f p a)) → Else (and_then x f)
else_then bad f h e = else-bad e
else_then (ok p a) f h e = h p a e

else_cond : (b : Bool) (x : Parsed Command) → Else x → Else (cond b x bad)
else_cond true x h e = h e
else_cond false x h e = else-bad e

else-after : (b : Bool) (p : ℕ) (f : ℕ → Parsed Command) → Else (f p) → Else (after_by b p f)
else-after true p f h e = h e
else-after false p f h e = else-bad e

module _ (s : List ℕ) where
  else-search : (at : ℕ) → Else (search_at s at)
  unfolding search_at
  else-search at =
      else_then (option_at "IN" (list_at (filter_at s) s) [] s at) _
      (λ q fs. else_then (option_at "RETURN" (returns_at s) [] s q) _
      (λ r rs. else_then (option_at "CHARSET" (charset_at s) none s r) _
      (λ t c. else_then (program_at s t) _ (λ e ks z. let y : ◌≡◌ {A = ℕ} 0 1 = cc in omega arith))))

  else_whole : (x : Parsed Command) → Else x → Else (whole s x)
  else_whole bad h e = else-bad e
  else_whole (ok p c) h e = else_cond (eqb p (length s)) (ok p c) h e

  pub else_esearch : (at : ℕ) → Else (whole_by esearch s at)
  else_esearch at = else_whole (command_by esearch s at) (else-after (stands s at " ") (at + 1) (λ q. search_at s q) (else-search (at + 1)))

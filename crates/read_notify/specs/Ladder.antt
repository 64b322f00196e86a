-- The reply by the tally alone is the reply of the command, and an accepted NOTIFY sets the session of the model. Assumes nothing.
use Rattle.std.specs.Prelude.{◌≡◌, refl, Bool, true, false, ◌||◌, List, ℕ, ◌≤◌, ltb, length}
use Rattle.std.proofs.lemmas.List.{length-map}
use Rattle.std.proofs.Common.{ltb-false, le-leb}
use Rattle.model.specs.Lists.{anyb}
use Rattle.model.specs.Laws.{or_l, or_r}
use Rattle.model.specs.Requests.{Asked, Command, notify_none, notify_set, search}
use Rattle.model.specs.Reading.{Parsed, bad, ok}
use Rattle.model.specs.Limits.{limits, name_count, command_too_large}
use Rattle.model.specs.Replies.{selected_twice, misplaced_event, misplaced_attributes, unpaired, reply_of}
use Rattle.model.specs.Answering.{session_by}
use Rattle.demands.specs.Lasting.Watching.{passed}
use Rattle.model.specs.declared.Limits.{Limits}
use Rattle.model.specs.declared.Session.{Session}
use Rattle.model.specs.declared.Reply.TheVariants.{Accepted}
use Rattle.read_notify.specs.Tallies.{filters_of, tally_of, reply_by_tally}
use Rattle.read_notify.specs.Watched.{few, watched_by}

regroup : (a b c d : Bool) → (a || ((b || c) || d)) ≡ (((a || b) || c) || d)
regroup true b c d = refl
regroup false b c d = refl

pub reply_by-tally : (l : Limits) (selected : Bool) (p : ℕ) (status : Bool) (gs : List Asked) → reply_by_tally l (tally_of gs) ≡ reply_of l selected (ok p (notify_set status gs))
reply_by-tally l selected p status gs =
    rw (regroup (selected_twice gs) (anyb misplaced_event gs) (anyb misplaced_attributes gs) (anyb unpaired gs), length-map gs (λ (g : Asked). g.filter))

-- groups that are not too large fit into a session
not_large : (status : Bool) (gs : List Asked) → command_too_large limits (notify_set status gs) ≡ false → (length gs ≤ 8) × (name_count (filters_of gs) ≤ 16)
not_large status gs h = (
  rw (length-map gs (λ (g : Asked). g.filter)) at (ltb-false 8 (length (filters_of gs)) (or_l (ltb 8 (length (filters_of gs))) (ltb 16 (name_count (filters_of gs))) h)),
  ltb-false 16 (name_count (filters_of gs)) (or_r (ltb 8 (length (filters_of gs))) (ltb 16 (name_count (filters_of gs))) h),
)

few_enough : (status : Bool) (gs : List Asked) → command_too_large limits (notify_set status gs) ≡ false → few gs ≡ true
few_enough status gs h = let l = not_large status gs h in rw (le-leb (length gs) 8 l.0) (le-leb (name_count (filters_of gs)) 16 l.1)

pub accepted_few : (selected : Bool) (p : ℕ) (status : Bool) (gs : List Asked) → reply_of limits selected (ok p (notify_set status gs)) ≡ Accepted → (length gs ≤ 8) × (name_count (filters_of gs) ≤ 16)
accepted_few selected p status gs h = not_large status gs (passed limits selected p (notify_set status gs) h).4

pub watched-accepted : (selected : Bool) (x : Parsed Command) (s : Session) → reply_of limits selected x ≡ Accepted → watched_by x s ≡ session_by x s
watched-accepted selected bad s h = refl
watched-accepted selected (ok p notify_none) s h = refl
watched-accepted selected (ok p (notify_set status gs)) s h = rw (few_enough status gs (passed limits selected p (notify_set status gs) h).4)
watched-accepted selected (ok p (search q)) s h = refl

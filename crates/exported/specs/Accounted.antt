-- Demand 2 of the exported step's runs, through its contract alone: the memory behind a run is the one that the rules' stream leaves. Assumes nothing.
use Rattle.std.specs.Prelude.{◌≡◌, refl, List, [], ◌∷◌, ◌++◌, Bool, true, false, cond, ℕ, suc, eqb, leb, length}
use Rattle.std.proofs.Common.{ap, sym, ◌∙◌, subst, arith}
use Rattle.model.specs.Records.{record_of}
use Rattle.model.specs.Memory.{Memory, held, both_rights, selected_box}
use Rattle.model.specs.Lawful.{queue_ok}
use Rattle.model.specs.Call.{call}
use Rattle.model.specs.Hidden.{Octets, Starts}
use Rattle.model.specs.Fates.{Fate, waits, reported, tells}
use Rattle.model.specs.Seen.{apparent, seen, history, final, setting_of, setting_by, held_by}
use Rattle.model.specs.Account.{front, settle, account_of, fate_at, Exact, Occasion, overflows, Cleared, Demand2}
use Rattle.model.specs.declared.Answer.{Answer}
use Rattle.model.specs.declared.Answer.TheVariants.{Done, Counted, Refused}
use Rattle.demands.specs.Ledger.Demand2.{demand2}
use Rattle.table_messages.specs.Words.{messages}
use Rattle.step.specs.Steps.{Lent, memory_of, after_is}
use Rattle.step.specs.Runs.{Begins}
use Rattle.lent_answer.specs.declared.Answered.{Answered}
use Rattle.lent_answer.specs.Numbers.{numbers_said}
use Rattle.exported.specs.Hosts.{Hosted, Makes, HostRuns, last_of, octets_of, behind, HostsTold}

-- ---- the memory behind a run
made_after : (a : Lent) (c : Hosted) → Makes a c → memory_of c.after ≡ (call (memory_of a) c.octets).after
made_after a c r = after_is a c.octets r.answer c.after r.steps

made_numbers : (a : Lent) (c : Hosted) → Makes a c → c.answer ≡ numbers_said (call (memory_of a) c.octets).answer
made_numbers a c r = r.numbers ∙ ap numbers_said r.steps.answer

run-final : (a : Lent) (cs : List Hosted) → HostRuns a cs → behind a cs ≡ final (memory_of a) (octets_of cs)
run-final a [] r = refl
run-final a (c ∷ cs) r = run-final c.after cs r.1 ∙ ap (λ (m : Memory). final m (octets_of cs)) (made_after a c r.0)

final-append : (m : Memory) (os ps : List Octets) → final m (os ++ ps) ≡ final (final m os) ps
final-append m [] ps = refl
final-append m (o ∷ os) ps = final-append (call m o).after os ps

-- ---- only a count of 0 is answered by its numbers
no_one : (n : ℕ) → n ≡ 0 → n ≡ 1 → ⊥
no_one n e f = omega arith

counted_none : (x : Answer) → numbers_said x ≡ record { refusal = 0; counted = 1; count = 0 } → x ≡ Counted 0
counted_none Done e = absurd (no_one _ refl (ap (λ (d : Answered). d.counted) e))
counted_none (Counted n) e = ap Counted (ap (λ (d : Answered). d.count) e)
counted_none (Refused r) e = absurd (no_one _ refl (ap (λ (d : Answered). d.counted) e))

module _ (a : Lent) (start : Begins a a) (q : queue_ok (length a.queue) ≡ true) (r : leb (length a.table) 64 ≡ true) (e : leb (length (messages a.words)) 1024 ≡ true) where
  abbrev m : Memory
  m = memory_of a

  starts : Starts m m
  starts = record { counts = start.counts; counts' = start.counts'; session = start.session; session' = start.session'; queue = refl; rows = refl; entries = refl }

  d : Demand2 m
  d = demand2 m starts q r e

  -- what holds of the rules' memory after the stream holds of the memory behind the run
  module _ (cs : List Hosted) (run : HostRuns a cs) where
    abbrev os : List Octets
    os = octets_of cs

    here : (P : Memory → Type 0) → P (final m os) → P (behind a cs)
    here P x = subst P (sym (run-final a cs run)) x

    there : (P : Memory → Type 0) → P (behind a cs) → P (final m os)
    there P x = subst P (run-final a cs run) x

    module _ (c : Hosted) (made : Makes (last_of a cs) c) where
      -- taken is answered 0
      taken_is : (seen (behind a cs) c.octets).taken ≡ eqb c.answer.refusal 0
      taken_is = sym (ap (λ (x : Answered). eqb x.refusal 0) (made_numbers (last_of a cs) c made))

      after_next : memory_of c.after ≡ final m (os ++ (c.octets ∷ []))
      after_next = made_after (last_of a cs) c made ∙ (ap (λ (x : Memory). (call x c.octets).after) (run-final a cs run) ∙ sym (final-append m os (c.octets ∷ [])))

      -- so a rule for what a call that is taken leaves is one by its number
      by_number : {A : Type 0} (P : A → Type 0) (x y : Memory → A) → P (cond (seen (final m os) c.octets).taken (x (final m os)) (y (final m os))) → P (cond (eqb c.answer.refusal 0) (x (behind a cs)) (y (behind a cs)))
      by_number {A} P x y p =
          subst (λ (b : Bool). P (cond b (x (behind a cs)) (y (behind a cs)))) taken_is
          (here (λ (z : Memory). P (cond (seen z c.octets).taken (x z) (y z))) p)

      was-taken : eqb c.answer.refusal 0 ≡ true → (seen (final m os) c.octets).taken ≡ true
      was-taken h = there (λ (z : Memory). (seen z c.octets).taken ≡ true) (taken_is ∙ h)

  -- two runs, one after the other
  run_on : (cs ds : List Hosted) → HostRuns a cs → HostRuns (last_of a cs) ds → behind (last_of a cs) ds ≡ final m (octets_of cs ++ octets_of ds)
  run_on cs ds r s = run-final (last_of a cs) ds s ∙ (ap (λ (x : Memory). final x (octets_of ds)) (run-final a cs r) ∙ sym (final-append m (octets_of cs) (octets_of ds)))

  pub accounted : HostsTold a
  accounted = record {
    exact = λ cs run o. here cs run (λ (x : Memory). Exact (account_of m (octets_of cs)) (seen x o)) (d.exact (octets_of cs) o);
    answers = λ cs run c made. made_numbers (last_of a cs) c made;
    octets = λ cs run c made. ap held (after_next cs run c made)
        ∙ by_number cs run c made (λ (z : List ℕ). held (final m (octets_of cs ++ (c.octets ∷ []))) ≡ z) (λ (x : Memory). held_by (held x) (record_of c.octets) (call x c.octets).lines) held (d.octets (octets_of cs) c.octets);
    queue-length = λ cs run. here cs run (λ (x : Memory). length x.queue ≡ length a.queue) (d.queue-length (octets_of cs));
    setting = λ cs run c made. ap setting_of (after_next cs run c made)
        ∙ here cs run (λ (x : Memory). setting_of (final m (octets_of cs ++ (c.octets ∷ []))) ≡ setting_by (setting_of x) (seen x c.octets)) (d.setting (octets_of cs) c.octets);
    never-silent = λ cs run. d.never-silent (octets_of cs);
    settles = λ cs run c made k w h. by_number cs run c made (λ (z : Fate). fate_at (account_of m (octets_of cs ++ (c.octets ∷ []))) k ≡ z)
        (λ (x : Memory). settle (apparent x) (suc (length (octets_of cs))) (record_of c.octets) (call x c.octets).lines (waits w)) (λ (x : Memory). waits w) (d.settles (octets_of cs) c.octets k w h);
    first_occasion = λ cs run c made k w h t b o. d.first_occasion (octets_of cs) c.octets k w h (was-taken cs run c made t)
        (there cs run (λ (x : Memory). both_rights (selected_box x) ≡ true) b) (there cs run (λ (x : Memory). Occasion (account_of m (octets_of cs)) (seen x c.octets) w) o);
    told_in-part = λ cs run c made k w h t n p. here cs run (λ (x : Memory). fate_at (account_of m (octets_of cs ++ (c.octets ∷ []))) k ≡ cond (tells (front (apparent x) (account_of m (octets_of cs)) n) w) (reported (suc (length (octets_of cs)))) (waits w))
        (d.told_in-part (octets_of cs) c.octets k w h (was-taken cs run c made t) n p);
    no_loss = λ cs ds run on h. d.no_loss (octets_of cs) (octets_of ds) (there cs run (λ (x : Memory). overflows (history x (octets_of ds)) ≡ false) h);
    all_told = λ cs ds run on c made h p b z. d.all_told (octets_of cs) (octets_of ds) c.octets
        (there cs run (λ (x : Memory). overflows (history x (octets_of ds ++ (c.octets ∷ []))) ≡ false) h)
        (subst (λ (x : Memory). Cleared x c.octets) (run_on cs ds run on) (record { ending = p; rights = b; none_left = counted_none _ (sym (made_numbers (last_of (last_of a cs) ds) c made) ∙ z) }));
  }

-- What the end of a command leaves is what the rule says. Assumes nothing.
use Rattle.std.specs.Prelude.{◌≡◌, Bool, not, cond, ◌&&◌, ℕ, ◌-◌, ◌≤◌, eqb}
use Rattle.std.proofs.Math.Path.{refl, ap}
use Rattle.std.proofs.Common.{sym, ◌∙◌}
use Rattle.std.proofs.Math.Bool.{true, false}
use mathlib.Core.List.{List, [], ◌∷◌, ◌++◌, append_assoc}
use native.Mathlib.Omega.{arith}
use Rattle.std.proofs.Math.ListN.{length}
use Rattle.model.specs.Lists.{filterb, keep}
use Rattle.model.specs.Memory.{Memory, mails, filled, selected_box, both_rights, messages_of, expunged, marked}
use Rattle.model.specs.Lines.{Line}
use Rattle.model.specs.Queue.{room, fitting}
use Rattle.model.specs.View.{expunge_lines, marked_lines, exists_line, owed}
use Rattle.model.specs.Rules.{accepted}
use Rattle.model.specs.Records.{ended}
use Rattle.model.specs.declared.Message.{Message}
use Rattle.model.specs.declared.Answer.TheVariants.{Counted}
use Rattle.order_messages.specs.Counts.{stays, fresh}
use Rattle.event_view.specs.Saying.{part, start, first_part}
use Rattle.event_view.specs.Speaking.{first, second, third}
use Rattle.event_session.specs.Ending.{end_rest}
use Rattle.event_session.specs.Sunk.{Sunk, sunk_start, sunk-part}
use Rattle.event_session.specs.Runs.{seen, view_of, stayers, uids, zeros, run_e_sunk, run_m_sunk, exists_sunk}

-- those that stay, counted in one go or in two
stay_same : (told : ℕ) (c : Bool) (l : List Message) → filterb (stays told c) l ≡ stayers c (view_of told l)
stay_same told true [] = refl
stay_same told false [] = refl
stay_same told true (x ∷ l) = go (seen told x) (stay_same told true l)
  where
    go : (a : Bool) → filterb (stays told true) l ≡ stayers true (view_of told l) → keep (a && not (expunged x)) x (filterb (stays told true) l) ≡ filterb (λ (e : Message). not (expunged e)) (keep a x (view_of told l))
    go true ih = ap (keep (not (expunged x)) x) ih
    go false ih = ih
stay_same told false (x ∷ l) = go (seen told x) (stay_same told false l)
  where
    go : (a : Bool) → filterb (stays told false) l ≡ view_of told l → keep (a && true) x (filterb (stays told false) l) ≡ keep a x (view_of told l)
    go true ih = ap (λ (t : List Message). x ∷ t) ih
    go false ih = ih

module _ (told : ℕ) (c : Bool) (lim : ℕ) (all : List Message) (q : List ℕ) (at : ℕ) (wide : lim ≤ length q) where
  abbrev pub part_a : List Line
  part_a = cond c (expunge_lines 1 (view_of told all)) []

  abbrev pub us_a : List ℕ
  us_a = cond c (uids (filterb expunged (view_of told all))) []

  abbrev pub fresher : List Message
  fresher = filterb (fresh told) all

  abbrev pub part_b : List Line
  part_b = exists_line (length (filterb (stays told c) all)) fresher

  abbrev pub part_c : List Line
  part_c = marked_lines 1 (stayers c (view_of told all))

  pub sunk_a : Sunk q at lim 0 part_a us_a (first told c lim all q at)
  unfolding first
  sunk_a = go c
    where
      go : (d : Bool) → Sunk q at lim 0 (cond d (expunge_lines 1 (view_of told all)) []) (cond d (uids (filterb expunged (view_of told all))) []) (first_part told d lim all (start q at))
      go true = run_e_sunk q at lim wide told 0 all [] [] (start q at) 1 refl (sunk_start q at lim)
      go false = sunk_start q at lim

  pub sunk_b : Sunk q at lim (length part_a) (part_a ++ part_b) (zeros fresher) (second told c lim all q at)
  unfolding second
  sunk_b = exists_sunk q at lim wide told (length part_a) (length (filterb (stays told c) all)) (length fresher) fresher refl part_a [] (part (first told c lim all q at)) (sunk-part q at lim 0 part_a us_a (first told c lim all q at) sunk_a)

  pub sunk_c : Sunk q at lim (length (part_a ++ part_b)) ((part_a ++ part_b) ++ part_c) (uids (filterb marked (stayers c (view_of told all)))) (third told c lim all q at)
  unfolding third part
  sunk_c = run_m_sunk q at lim wide told (length (part_a ++ part_b)) c all (part_a ++ part_b) [] (part (second told c lim all q at)) 1 refl (sunk-part q at lim (length part_a) (part_a ++ part_b) (zeros fresher) (second told c lim all q at) sunk_b)

  -- in the rule's grouping
  pub grouped : (part_a ++ part_b) ++ part_c ≡ cond c (expunge_lines 1 (view_of told all)) [] ++ (exists_line (length (stayers c (view_of told all))) fresher ++ marked_lines 1 (stayers c (view_of told all)))
  grouped = append_assoc part_a part_b part_c ∙ ap (λ (k : List Message). part_a ++ (exists_line (length k) fresher ++ part_c)) (stay_same told c all)

-- ---- the answer: how many lines are still owed
module _ (m : Memory) (c : ℕ) where
  abbrev told : ℕ
  told = m.session.told

  abbrev all : List Message
  all = messages_of m.session.selected (mails m)

  abbrev lim : ℕ
  lim = length m.queue - 64

  pub fits_in : lim ≤ length m.queue
  fits_in = omega arith

  pub owed_is : both_rights (selected_box m) ≡ true → owed m c ≡ (part_a told (eqb c 1) lim all m.queue (filled m) fits_in ++ part_b told (eqb c 1) lim all m.queue (filled m) fits_in) ++ part_c told (eqb c 1) lim all m.queue (filled m) fits_in
  owed_is r = rw r (sym (grouped told (eqb c 1) lim all m.queue (filled m) fits_in))

  pub end-answer : (accepted m (ended c)).answer ≡ Counted (end_rest m.entries m.counts.messages m.queue m.session (filled m) (eqb c 1) (both_rights (selected_box m)))
  unfolding accepted end_rest
  end-answer = go (both_rights (selected_box m)) refl
    where
      go : (r : Bool) → both_rights (selected_box m) ≡ r → Counted (length (owed m c) - length (fitting (room m) (owed m c))) ≡ Counted (cond r (third told (eqb c 1) lim all m.queue (filled m)).rest 0)
      go true r =
          let x = (sunk_c told (eqb c 1) lim all m.queue (filled m) fits_in).counts in
          let o = owed_is r in
          let a = ap length o in
          let b = ap (λ (l : List Line). length (fitting (room m) l)) o in
          ap Counted (omega arith)
      go false r = rw r (ap Counted none)
        where
          none : length {A = Line} [] - length (fitting (room m) []) ≡ 0
          none = omega arith

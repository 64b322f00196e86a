-- A change that is taken writes the overflow line just if it takes the groups away, as the session after it shows. Assumes nothing.
use Rattle.std.specs.Prelude.{◌≡◌, refl, List, map, Bool, true, false, cond, ℕ, eqb, take}
use Rattle.std.proofs.Common.{sym, ◌∙◌, ap, eqb-true}
use Rattle.model.specs.Lists.{anyb}
use Rattle.model.specs.Laws.{tf}
use Rattle.model.specs.Records.{Record, create, delete, rename, subscribe, grant, arrive, expunge, reflag, select, ended, command, drained, record_of_none, record_of}
use Rattle.model.specs.Memory.{Memory, silenced}
use Rattle.model.specs.Groups.{group_of, groups_of, number}
use Rattle.model.specs.Lines.{Line}
use Rattle.model.specs.Answers.{number_of}
use Rattle.model.specs.Call.{call}
use Rattle.model.specs.Hidden.{Octets}
use Rattle.model.specs.Fates.{is_overflow}
use Rattle.model.specs.Seen.{Setting, setting_of, hushed_by, session_after}
use Rattle.model.specs.Reasoned.{changes}
use Rattle.model.specs.declared.Group.{Group}
use Rattle.model.specs.declared.Session.{Session}
use Rattle.demands.specs.Ledger.Settings.{call-setting}

-- the session after a change
pub after-change : (s : Session) (r : Record) (ls : List Line) → changes r ≡ true → session_after s r ls ≡ hushed_by s ls
after-change s (create i a q v c n) ls h = refl
after-change s (delete i q) ls h = refl
after-change s (rename i q n) ls h = refl
after-change s (subscribe i b q) ls h = refl
after-change s (grant i r) ls h = refl
after-change s (arrive i u f z c) ls h = refl
after-change s (expunge i u c) ls h = refl
after-change s (reflag i u f c) ls h = refl
after-change s (select i) ls h = tf false h refl
after-change s (ended c) ls h = tf false h refl
after-change s (command t) ls h = tf false h refl
after-change s (drained n) ls h = tf false h refl
after-change s record_of_none ls h = tf false h refl

-- where a group stood, the line is written just if none stands any more
pub overflow_hushes : (m : Memory) (o : Octets) → number_of (call m o).answer ≡ 0 → changes (record_of o) ≡ true → eqb m.session.groupcount 0 ≡ false
    → anyb is_overflow (call m o).lines ≡ eqb (call m o).after.session.groupcount 0
overflow_hushes m o e h g =
    let s = (setting_of m).session in
    let ls = (call m o).lines in
    let a : (setting_of (call m o).after).session ≡ session_after s (record_of o) ls = rw e at (ap (λ (x : Setting). x.session) (call-setting m o).setting) in
    let b : (call m o).after.session.groupcount ≡ (hushed_by s ls).groupcount = ap (λ (x : Session). x.groupcount) (a ∙ after-change s (record_of o) ls h) in
    hushed (anyb is_overflow ls) ∙ sym (ap (λ (n : ℕ). eqb n 0) b)
  where
    hushed : (c : Bool) → c ≡ eqb (cond c (silenced (setting_of m).session) (setting_of m).session).groupcount 0
    hushed true = refl
    hushed false = sym g

-- a group with a number stands
pub number-stands : (p : Group → Bool) (s : Session) → eqb (number p (groups_of s)) 0 ≡ false → eqb s.groupcount 0 ≡ false
unfolding number
number-stands p s h = go (eqb s.groupcount 0) refl
  where
    go : (c : Bool) → eqb s.groupcount 0 ≡ c → c ≡ false
    go true e = tf (eqb (number p (groups_of s)) 0) (ap (λ (n : ℕ). eqb (number p (map group_of (take n s.groups))) 0) (eqb-true s.groupcount 0 e)) h
    go false e = refl

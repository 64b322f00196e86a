-- A call of any kind keeps the account in agreement with memory, and so does a stream. Assumes nothing.
use Rattle.std.specs.Prelude.{◌≡◌, refl, List, [], ◌∷◌, map, Bool, false, not, cond, ℕ, suc, leb, ltb, length}
use Rattle.std.proofs.Common.{◌∙◌, leb-false}
use Rattle.std.proofs.Math.Path.{ap₂}
use Rattle.std.proofs.Math.Bool.{◌||◌, true}
use Rattle.std.proofs.lemmas.Bool.{not-false}
use Rattle.std.proofs.Math.Dec.{eqb}
use Rattle.model.specs.Lists.{anyb}
use Rattle.model.specs.Laws.{tf, or_l, or_r, or-false, any_snoc}
use Rattle.model.specs.Records.{Record, create, delete, rename, subscribe, grant, arrive, expunge, reflag, select, ended, command, drained, record_of_none, is_record, record_of}
use Rattle.model.specs.Memory.{Memory, boxes, the_mailbox}
use Rattle.model.specs.Lines.{Line}
use Rattle.model.specs.Lawful.{queue_ok, lawful}
use Rattle.model.specs.Answers.{number_of}
use Rattle.model.specs.Refusals.{wrong_id, name_held, absent, stale, wrong_uid, wrong_state, table_full}
use Rattle.model.specs.Rules.{Outcome, accepted}
use Rattle.model.specs.Call.{call, refuse, roomless}
use Rattle.model.specs.Hidden.{Octets, Starts}
use Rattle.demands.specs.Theorems.{stays-lawful, start-lawful}
use Rattle.demands.specs.Lasting.Law.{Law, law_out, law_in}
use Rattle.demands.specs.Lasting.Ranges.{InRange, in_range_lem}
use Rattle.demands.specs.Counted.Taken.{Unrefused}
use Rattle.model.specs.declared.Refusal.{Refusal}
use Rattle.model.specs.declared.Refusal.TheVariants.{UnlawfulMemory, BadRecord, WrongId, NameHeld, WrongUid, WrongState, TableFull, NoRoom}
use Rattle.model.specs.Fates.{arrival, removal, marking, Fate, refused, unowed, reported, waits, dropped, lost, silent, reselected, expunged_first, tells, reselects, expunges_first, is_silent}
use Rattle.model.specs.Seen.{apparent, Seen, seen, history, final}
use Rattle.model.specs.Due.{Account, opened, waiting, due}
use Rattle.model.specs.Account.{due_lines, own_fate, settle, entered, account, Exact}
use Rattle.model.specs.Reasoned.{changes}
use Rattle.demands.specs.Ledger.Entries.{state_of, present}
use Rattle.demands.specs.Ledger.Books.{Books}
use Rattle.demands.specs.Ledger.Posting.{waiting-refused}
use Rattle.demands.specs.Ledger.Steps.{Fair, Step}
use Rattle.demands.specs.Ledger.Boxes.{created-step, renamed_step, subscribed-step, granted-step, deleted-step}
use Rattle.demands.specs.Ledger.Ends.{ended-step, drained-step, none-step, selected_step}
use Rattle.demands.specs.Ledger.Commanded.{command-step}
use Rattle.demands.specs.Ledger.Raised.{mail-arrived, mail-removed, mail-reflagged}

-- ---- every kind
kind-step : (m : Memory) (k : Law m) (a : Account) → Books m a → (r : Record) → InRange r → wrong_id m r ≡ false → wrong_uid m r ≡ false → wrong_state m r ≡ false → table_full m r ≡ false
    → Step m a r (accepted m r)
unfolding accepted
kind-step m k a b (create i c q v h n) o d e f g = created-step m k a b i c q v h n
kind-step m k a b (delete i q) o d e f g = deleted-step m k a b i q (not-false _ d) f
kind-step m k a b (rename i q n) o d e f g = renamed_step m k a b i q n
kind-step m k a b (subscribe i c q) o d e f g = subscribed-step m k a b i c q
kind-step m k a b (grant i r) o d e f g = granted-step m k a b i r
kind-step m k a b (arrive i u c z h) o d e f g =
    let y = ltb u (the_mailbox i (boxes m)).uidnext in
    mail-arrived m k a b i h (not-false _ d) o.3 (or_r y (stale m i h) e) u c z o.0 o.1 o.2 (or_l y (stale m i h) e) (leb-false _ _ g)
kind-step m k a b (expunge i u h) o d e f g = let y = absent m i u in mail-removed m k a b i h (not-false _ d) o (or_r y (stale m i h) e) u (or_l y (stale m i h) e)
kind-step m k a b (reflag i u c h) o d e f g = let y = absent m i u in mail-reflagged m k a b i h (not-false _ d) o.1 (or_r y (stale m i h) e) u c (or_l y (stale m i h) e)
kind-step m k a b (select i) o d e f g = selected_step m k a b i
kind-step m k a b (ended c) o d e f g = ended-step m k a b c
kind-step m k a b (command t) o d e f g = command-step m k a b t
kind-step m k a b (drained n) o d e f g = drained-step m k a b n
kind-step m k a b record_of_none o d e f g = none-step m k a b

-- ---- what is settled is not silent
settled_one : (w : Memory) (n : ℕ) (r : Record) (ls : List Line) (f : Fate) → is_silent (settle w n r ls f) ≡ is_silent f
settled_one w n r ls refused = refl
settled_one w n r ls (unowed y) = refl
settled_one w n r ls (reported k) = refl
settled_one w n r ls (waits d) = go (tells ls d) (reselects r) (expunges_first w r d)
  where
    go : (a b c : Bool) → is_silent (cond a (reported n) (cond b (dropped reselected n) (cond c (dropped expunged_first n) (waits d)))) ≡ false
    go true b c = refl
    go false true c = refl
    go false false true = refl
    go false false false = refl
settled_one w n r ls (dropped y k) = refl
settled_one w n r ls lost = refl
settled_one w n r ls silent = refl

settled-silent : (w : Memory) (n : ℕ) (r : Record) (ls : List Line) (fs : List Fate) → anyb is_silent (map (settle w n r ls) fs) ≡ anyb is_silent fs
settled-silent w n r ls [] = refl
settled-silent w n r ls (f ∷ fs) = ap₂ ◌||◌ (settled_one w n r ls f) (settled-silent w n r ls fs)

-- ---- a call
abbrev seen_as : Memory → Octets → Outcome → Seen
seen_as m o x = record { around = apparent m; said = record_of o; taken = eqb (number_of x.answer) 0; lines = x.lines }

pub record Kept (m : Memory) (a : Account) (o : Octets) (x : Outcome) : Type 0 where
  pub exact : Exact a (seen_as m o x)
  -- a change writes nothing but what it owes, or the overflow line, and a refused call nothing
  pub whole : changes (record_of o) ≡ true → x.lines ≡ cond (seen_as m o x).taken (due_lines (apparent m) (due (apparent m) a (record_of o))) []
  pub fair : (seen_as m o x).taken ≡ true → changes (record_of o) ≡ true → Fair (due (apparent m) a (record_of o))
  pub books : Books x.after (entered a (seen_as m o x))
  pub heard : anyb is_silent a.fates ≡ false → anyb is_silent (entered a (seen_as m o x)).fates ≡ false

module _ (m : Memory) (k : Law m) (a : Account) (b : Books m a) (o : Octets) where
  refusing : (r : Refusal) → eqb (number_of (refuse m r).answer) 0 ≡ false → Kept m a o (refuse m r)
  unfolding entered
  refusing r h = record {
    exact = rw h;
    whole = λ _. rw h;
    fair = λ z. tf (seen_as m o (refuse m r)).taken z h;
    books = rw h (record {
      kept = b.kept;
      removals = λ u. waiting-refused a.fates (removal u) ∙ b.removals u;
      markings = λ u. waiting-refused a.fates (marking u) ∙ b.markings u;
      arrivals = λ u. waiting-refused a.fates (arrival u) ∙ b.arrivals u;
    });
    heard = λ q. rw h (any_snoc is_silent a.fates refused ∙ (or-false (anyb is_silent a.fates) ∙ q));
  }

  accepting : Step m a (record_of o) (accepted m (record_of o)) → Kept m a o (accepted m (record_of o))
  unfolding entered
  accepting s =
      let h : eqb (number_of (accepted m (record_of o)).answer) 0 ≡ true = rw (Unrefused m (record_of o)) in
      record {
        exact = rw h s.exact;
        whole = λ c. rw h (s.whole c).0;
        fair = λ _ c. (s.whole c).1;
        books = rw h s.books;
        heard = λ q. rw h (any_snoc is_silent (map (settle (apparent m) (suc (length a.fates)) (record_of o) (accepted m (record_of o)).lines) a.fates)
            (own_fate (apparent m) a (record_of o) (accepted m (record_of o)).lines)
            ∙ ap₂ ◌||◌ (settled-silent (apparent m) (suc (length a.fates)) (record_of o) (accepted m (record_of o)).lines a.fates ∙ q) s.heard);
      }

  rung : (c : Bool) (x y : Outcome) → Kept m a o x → (c ≡ false → Kept m a o y) → Kept m a o (cond c x y)
  rung true x y l r = l
  rung false x y l r = r refl

  pub call_kept : Kept m a o (call m o)
  unfolding call
  call_kept =
      rung (not (lawful m)) _ _ (refusing UnlawfulMemory refl) λ _.
      rung (not (is_record o)) _ _ (refusing BadRecord refl) λ r.
      rung (wrong_id m (record_of o)) _ _ (refusing WrongId refl) λ c.
      rung (name_held m (record_of o)) _ _ (refusing NameHeld refl) λ d.
      rung (wrong_uid m (record_of o)) _ _ (refusing WrongUid refl) λ e.
      rung (wrong_state m (record_of o)) _ _ (refusing WrongState refl) λ f.
      rung (table_full m (record_of o)) _ _ (refusing TableFull refl) λ g.
      rung (roomless m (record_of o)) _ _ (refusing NoRoom refl) λ h.
      accepting (kind-step m k a b (record_of o) (in_range_lem o (not-false (is_record o) r)) c e f g)

-- ---- streams
-- after any calls the account agrees with memory, and nothing in it is silent
pub record Stands (m : Memory) (a : Account) : Type 0 where
  pub law : Law m
  pub books : Books m a
  pub heard : anyb is_silent a.fates ≡ false

pub stands_on : (m : Memory) (a : Account) → Stands m a → (os : List Octets) → Stands (final m os) (account a (history m os))
stands_on m a s [] = s
stands_on m a s (o ∷ os) =
    let c = call_kept m s.law a s.books o in
    stands_on (call m o).after (entered a (seen m o)) (record { law = law_out (call m o).after (stays-lawful m o (law_in m s.law)); books = c.books; heard = c.heard s.heard }) os

-- at the start nothing waits
pub opening : (m : Memory) → Starts m m → queue_ok (length m.queue) ≡ true → leb (length m.rows) 64 ≡ true → leb (length m.entries) 1024 ≡ true → Stands m opened
unfolding waiting state_of present
opening m z q r e = record {
  law = law_out m (start-lawful m z q r e);
  books = record { kept = rw z.counts; removals = λ u. rw z.counts; markings = λ u. rw z.counts; arrivals = λ u. rw z.counts };
  heard = refl;
}

-- One taken call: a command. Assumes nothing.
use Rattle.std.specs.Prelude.{◌≡◌, Bool, true, false, not, cond, ◌&&◌, ℕ, length}
use Rattle.std.proofs.Math.Path.{refl}
use Rattle.std.proofs.Common.{sym, ◌∙◌, ap, ap₂}
use mathlib.Core.List.{List, [], ◌∷◌, ◌++◌}
use Rattle.model.specs.Lists.{filterb, anyb, concat_map, when, sorted}
use Rattle.model.specs.Laws.{tf, or_true, filter-append, any_snoc, and_false}
use Rattle.model.specs.Requests.{Command, notify_none, notify_set, search, Search}
use Rattle.model.specs.Reading.{Parsed, bad, ok}
use Rattle.model.specs.Commands.{tag_of, command_of}
use Rattle.model.specs.Records.{command}
use Rattle.model.specs.Memory.{Memory, boxes, mails, name_of, may_list, may_read, counter_of, is_selected, existing}
use Rattle.model.specs.Groups.{asked_of, asks_messages}
use Rattle.model.specs.Lines.{Line, status, set_items, list, renamed, exists, expunge as expunge_line, fetch, found as found_data, overflow, answer, no_access, render_all}
use Rattle.model.specs.Queue.{say}
use Rattle.model.specs.View.{owed}
use Rattle.model.specs.Listing.{listing, listing_line, concerns, by_name, watching}
use Rattle.model.specs.Searching.{found_line, found_lines, matches, candidates, searched, or_selected}
use Rattle.model.specs.Answering.{accepted_lines, is_accepted, reply, verb, verb_of, answer_lines, session_by, with_asked, answered}
use Rattle.demands.specs.Lasting.Law.{Law}
use Rattle.model.specs.declared.Answer.TheVariants.{Done}
use Rattle.model.specs.declared.Mailbox.{Mailbox}
use Rattle.model.specs.declared.Session.{Session}
use Rattle.model.specs.declared.Uid.{Uid}
use Rattle.model.specs.declared.Reply.{Reply}
use Rattle.model.specs.declared.Reply.TheVariants.{Bad, BadEvent, Unsupported, BadCharset, TooLarge, Accepted}
use Rattle.model.specs.Fates.{no_event, unowed, is_notice, sets_groups, says_ok}
use Rattle.model.specs.Seen.{apparent}
use Rattle.model.specs.Due.{Account, due, owing}
use Rattle.model.specs.Account.{notices, owed_now}
use Rattle.demands.specs.Ledger.Each.{All, none, also, all_to, all_append}
use Rattle.demands.specs.Ledger.Books.{Books, same-owing, noticed_all, noticed-owed}
use Rattle.demands.specs.Ledger.Effects.{Calm}
use Rattle.demands.specs.Ledger.Steps.{page, same_books, Step}
use Rattle.demands.specs.Ledger.Calm.{calm-owed}
use Rattle.demands.specs.Ledger.Ends.{spoken_books}

-- ---- lines that are no notices
abbrev Aside : List Line → Type 0
Aside ls = All (λ (l : Line). is_notice l ≡ false) ls

aside_none : {ls : List Line} → Aside ls → notices ls ≡ []
aside_none none = refl
aside_none (also p h) = rw p (aside_none h)

aside_one : (m : Memory) (l : Line) → is_notice l ≡ false → Calm m l
aside_one m (status n is) h = tt
aside_one m (list k n) h = tt
aside_one m (renamed k new old) h = tt
aside_one m (exists n) h = tt
aside_one m (expunge_line n u) h = tf true refl h
aside_one m (fetch n u is) h = tf true refl h
aside_one m (found_data t n v rs) h = tt
aside_one m overflow h = tt
aside_one m (answer t v r) h = tt

aside-each : {A : Type 0} (f : A → List Line) → ((x : A) → Aside (f x)) → (l : List A) → Aside (concat_map f l)
aside-each f h [] = none
aside-each f h (x ∷ l) = all_append (h x) (aside-each f h l)

aside-listing : (m : Memory) (s : Session) (b : Bool) → Aside (listing m s b)
aside-listing m s b = aside-each (listing_line m s b) one (sorted by_name (filterb (λ (x : Mailbox). may_list x && concerns m s x) (boxes m)))
  where
    one : (x : Mailbox) → Aside (listing_line m s b x)
    one x = go (may_read x) (b && (not (is_selected m x.id) && asked_of s x asks_messages))
      where
        go : (c d : Bool) → Aside (cond c (when d (status (name_of x) (set_items (length (existing x.id (mails m))) x.uidnext x.uidvalidity (counter_of x)))) (list no_access (name_of x) ∷ []))
        go true true = also refl none
        go true false = none
        go false d = also refl none

aside-found : (m : Memory) (tag : List ℕ) (q : Search) → Aside (found_lines m tag q)
aside-found m tag q = aside-each (λ (x : Mailbox). found_line tag q x (matches q.keys (candidates m x))) (λ x. one x (matches q.keys (candidates m x))) (searched m (or_selected q.sources))
  where
    one : (x : Mailbox) (us : List Uid) → Aside (found_line tag q x us)
    one x [] = none
    one x (u ∷ us) = also refl none

pub not-ok : (t : List ℕ) (v : _) (r : Reply) → is_accepted r ≡ false → says_ok (answer t v r) ≡ false
not-ok t v Bad h = refl
not-ok t v BadEvent h = refl
not-ok t v Unsupported h = refl
not-ok t v BadCharset h = refl
not-ok t v TooLarge h = refl
not-ok t v Accepted h = tf true refl h

module _ (m : Memory) (k : Law m) (a : Account) (b : Books m a) where
  -- an accepted command
  notices-accepted : (tag : List ℕ) (c : Parsed Command) → notices (accepted_lines m tag c) ≡ cond (sets_groups c && anyb says_ok (accepted_lines m tag c)) (owing (apparent m) a 1) []
  notices-accepted tag bad = refl
  notices-accepted tag (ok p notify_none) = refl
  notices-accepted tag (ok p (notify_set wanted gs)) =
      let l = listing m (watching m.session gs) wanted in
      let says = any_snoc says_ok (owed m 1 ++ l) (answer tag (verb_of (notify_set wanted gs)) Accepted) ∙ or_true (anyb says_ok (owed m 1 ++ l)) in
      rw says (filter-append is_notice (owed m 1 ++ l) (answer tag (verb_of (notify_set wanted gs)) Accepted ∷ [])
      ∙ (nil (notices (owed m 1 ++ l))
      ∙ (filter-append is_notice (owed m 1) l
      ∙ (ap₂ ◌++◌ (noticed_all (noticed-owed m 1)) (aside_none (aside-listing m (watching m.session gs) wanted))
      ∙ (nil (owed m 1) ∙ sym (same-owing m k a b 1))))))
    where
      nil : (ls : List Line) → ls ++ [] ≡ ls
      nil [] = refl
      nil (x ∷ ls) = ap (λ (t : List Line). x ∷ t) (nil ls)
  notices-accepted tag (ok p (search q)) = aside_none (all_append (aside-found m tag q) (also {x = answer tag (verb_of (search q)) Accepted} refl none))

  calm-accepted : (tag : List ℕ) (c : Parsed Command) → All (Calm m) (accepted_lines m tag c)
  calm-accepted tag bad = none
  calm-accepted tag (ok p notify_none) = also tt none
  calm-accepted tag (ok p (notify_set wanted gs)) = all_append (all_append (calm-owed m k 1) (all_to (aside_one m) (aside-listing m (watching m.session gs) wanted)))
      (also {x = answer tag (verb_of (notify_set wanted gs)) Accepted} tt none)
  calm-accepted tag (ok p (search q)) = all_append (all_to (aside_one m) (aside-found m tag q)) (also {x = answer tag (verb_of (search q)) Accepted} tt none)

  -- the groups change; the view does not
  kept-view : (c : Parsed Command) (s : Session) → ((session_by c s).selected ≡ s.selected) × ((session_by c s).told ≡ s.told)
  kept-view bad s = (refl, refl)
  kept-view (ok p notify_none) s = (refl, refl)
  kept-view (ok p (notify_set wanted gs)) s = (refl, refl)
  kept-view (ok p (search q)) s = (refl, refl)

  pub command-step : (t : List ℕ) → Step m a (command t) (record { answer = Done; lines = answer_lines m t; after = answered m t })
  unfolding due owed_now answer_lines answered
  command-step t = go (is_accepted (reply m t)) refl
    where
      said : (ls : List Line) → All (Calm m) ls → Books (say m ls) (page (apparent m) a (command t) ls (unowed no_event))
      said ls c = spoken_books m k a b (command t) (unowed no_event) ls c (λ d. refl) (λ d. refl) refl (render_all ls)

      go : (d : Bool) → is_accepted (reply m t) ≡ d → Step m a (command t) (record { answer = Done; lines = answer_lines m t; after = answered m t })
      go true h = record {
        exact = rw h (notices-accepted (tag_of t) (command_of t));
        whole = λ c. tf false c refl;
        books = rw h (let ls = accepted_lines m (tag_of t) (command_of t) in
            same_books (say m ls) (with_asked (say m ls) (command_of t)) (page (apparent m) a (command t) ls (unowed no_event)) refl (kept-view (command_of t) (say m ls).session).0
            (kept-view (command_of t) (say m ls).session).1 (said ls (calm-accepted (tag_of t) (command_of t))));
        heard = refl;
      }
      go false h = record {
        exact = rw (h, not-ok (tag_of t) (verb (command_of t)) (reply m t) h, and_false (sets_groups (command_of t)));
        whole = λ c. tf false c refl;
        books = rw h (said (answer (tag_of t) (verb (command_of t)) (reply m t) ∷ []) (also {x = answer (tag_of t) (verb (command_of t)) (reply m t)} tt none));
        heard = refl;
      }

-- The lent memory put together, and its conditions as the code takes them. Assumes nothing.
use Rattle.std.specs.Prelude.{◌≡◌, refl, Bool, true, false, cond, ◌&&◌, ◌||◌, List, [], ◌∷◌, ℕ, ◌*◌, ◌-◌, ◌/◌, ◌<◌, ◌≤◌, eqb, leb, length, take, get_or}
use Rattle.std.proofs.Common.{ap, sym, ◌∙◌, arith, length-take-le, take-take, eq-eqb, ne_eqb, leb-true}
use Rattle.model.specs.Laws.{each}
use Rattle.model.specs.Lists.{allb, apart, every}
use Rattle.model.specs.Memory.{Memory, known, the_mailbox, place, no_mailbox}
use Rattle.table_mailboxes.specs.Walks.{unknown_whole, known_whole}
use Rattle.model.specs.Lawful.{mailbox_ok, message_ok, clash, twin, owned, state_ok, view_ok, session_ok, sizes_ok, contents_ok, lawful}
use Rattle.model.specs.declared.Mailbox.{Mailbox}
use Rattle.model.specs.declared.Message.{Message}
use Rattle.model.specs.declared.Counts.{Counts}
use Rattle.model.specs.declared.Session.{Session}
use Rattle.table_messages.specs.Words.{messages, messages-count}
use Rattle.table_mailboxes.specs.Columns.{Laid}
use Rattle.lawful_quick.specs.Passing.{Owners, tables_ok}
use Rattle.lawful_messages.specs.Clashing.{Called}

-- the table t as it is lent: its length, and its rows where they are not too many to be read
pub record Lent (t rows : List Mailbox) (lent : ℕ) : Type 0 where
  pub long : length t ≡ lent
  pub read : lent ≤ 64 → t ≡ take lent rows

-- of all columns, those by which an owner is known, and those of ids and names
pub owners : {l : List Mailbox} {ids attributes lens validities nexts counters names : List ℕ} → Laid l ids attributes lens validities nexts counters names → Owners l ids nexts
owners w = record { id = w.id; next = w.next }

pub called : {l : List Mailbox} {ids attributes lens validities nexts counters names : List ℕ} → Laid l ids attributes lens validities nexts counters names → Called l ids lens names
called w = record { id = w.id; len = w.len; name = w.name }

abbrev pub memory : List Mailbox → List Message → Counts → Session → List ℕ → Memory
memory t es k s q = record { rows = t; entries = es; counts = k; session = s; queue = q }

-- the conditions on sizes
abbrev pub filled_by : ℕ → ℕ → ℕ → Bool
filled_by q f groups = leb f q && (eqb groups 0 || leb f (q - 64))

abbrev pub sizes_by : ℕ → ℕ → ℕ → Counts → ℕ → List Bool
sizes_by q lent entries k groups =
    (leb 1024 q && leb q 65536)
    ∷ filled_by q k.filled groups
    ∷ leb lent 64
    ∷ leb k.mailboxes lent
    ∷ leb entries 1024
    ∷ leb k.messages entries
    ∷ []

-- what the sizes promise
module _ (q lent entries : ℕ) (k : Counts) (groups : ℕ) (e : every (sizes_by q lent entries k groups) ≡ true) where
  pub few-rows : lent ≤ 64
  few-rows = leb-true lent 64 (each (sizes_by q lent entries k groups) e).1.1.0

  pub rows_used : k.mailboxes ≤ lent
  rows_used = leb-true k.mailboxes lent (each (sizes_by q lent entries k groups) e).1.1.1.0

  pub entries_used : k.messages ≤ entries
  entries_used = leb-true k.messages entries (each (sizes_by q lent entries k groups) e).1.1.1.1.1.0

pub enough-words : (used n : ℕ) → used ≤ n / 6 → used * 6 ≤ n
enough-words used n h = omega arith

-- ---- the view
abbrev pub view_by : List Mailbox → ℕ → ℕ → Bool
view_by l selected told = cond (eqb selected 0) (eqb told 0) (known selected l && leb told (the_mailbox selected l).uidnext)

module _ (l : List Mailbox) (selected told k next : ℕ) (e : k ≡ place selected l) where
  pub view_none : selected ≡ 0 → eqb told 0 ≡ view_by l selected told
  view_none h = rw (eq-eqb selected 0 h)

  pub view_unknown : (selected ≡ 0 → ⊥) → length l ≤ k → false ≡ view_by l selected told
  view_unknown h g = rw (ne_eqb selected 0 h, unknown_whole selected l k e g)

  pub view_known : (selected ≡ 0 → ⊥) → k < length l → next ≡ (get_or l k no_mailbox).uidnext → leb told next ≡ view_by l selected told
  view_known h g q = rw (ne_eqb selected 0 h, known_whole selected l k e g, ← e, q)

-- ---- the contents: with the session, the view and the mailboxes in order the tables decide
swap : (a b c : Bool) → (a && (b && c)) ≡ (b && (a && c))
swap true b c = refl
swap false true c = refl
swap false false c = refl

five : (a b c d e f g h : Bool) → a ≡ true → c ≡ true → g ≡ true → every (d ∷ b ∷ e ∷ f ∷ h ∷ []) ≡ every (a ∷ b ∷ c ∷ d ∷ e ∷ f ∷ g ∷ h ∷ [])
five a b c d e f g h p q r = rw (p, q, r) (swap d b (e && (f && (h && true))))

pub tables_decide : (l : List Mailbox) (es : List Message) (s : Session) → allb mailbox_ok l ≡ true → session_ok s ≡ true → view_ok l s ≡ true → every (tables_ok l es s.selected s.told) ≡ every (contents_ok l es s)
tables_decide l es s p q r = five (allb mailbox_ok l) (allb message_ok es) (session_ok s) (apart clash l) (apart twin es) (allb (owned l) es) (view_ok l s) (allb (state_ok s) es) p q r

-- ---- all of it
module _ (rows : List Mailbox) (lent : ℕ) (ws : List ℕ) (k : Counts) (s : Session) (room : ℕ) (t : List Mailbox) (q : List ℕ) (w : Lent t rows lent) (e : length q ≡ room) where
  sizes : every (sizes_ok (memory t (messages ws) k s q)) ≡ every (sizes_by room lent (length ws / 6) k s.groupcount)
  sizes = rw (e, w.long, messages-count ws)

  pub wrong_sizes : every (sizes_by room lent (length ws / 6) k s.groupcount) ≡ false → false ≡ lawful (memory t (messages ws) k s q)
  unfolding lawful
  wrong_sizes h = rw (sizes, h)

  module _ (h : every (sizes_by room lent (length ws / 6) k s.groupcount) ≡ true) where
    few : lent ≤ 64
    few = few-rows room lent (length ws / 6) k s.groupcount h

    fit : k.mailboxes ≤ lent
    fit = rows_used room lent (length ws / 6) k s.groupcount h

    in_use : take k.mailboxes t ≡ take k.mailboxes rows
    in_use = ap (λ (x : List Mailbox). take k.mailboxes x) (w.read few) ∙ take-take k.mailboxes lent rows fit

    pub used-length : length (take k.mailboxes rows) ≡ k.mailboxes
    used-length = let l = w.long in ap length (sym in_use) ∙ length-take-le k.mailboxes t (omega (arith, fit))

    pub contents_decide : every (contents_ok (take k.mailboxes rows) (take k.messages (messages ws)) s) ≡ lawful (memory t (messages ws) k s q)
    unfolding lawful
    contents_decide = rw (sizes, h, in_use)

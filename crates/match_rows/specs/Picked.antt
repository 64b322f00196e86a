-- Who is told of at NOTIFY SET, by name and attributes: events asked for, bit by bit. Assumes nothing.
use Rattle.std.specs.Prelude.{◌≡◌, refl, Bool, true, false, not, cond, ◌&&◌, ◌||◌, List, [], ◌∷◌, ℕ, eqb}
use Rattle.std.proofs.Common.{ap, ap₂, sym, ◌∙◌}
use Rattle.model.specs.Lists.{anyb}
use Rattle.model.specs.Names.{Name}
use Rattle.model.specs.Text.{bit}
use Rattle.model.specs.Memory.{Memory, may_list, name_of}
use Rattle.model.specs.Groups.{asked, selected_asks, is_selecting, meets, groups_of, asks_new, asks_expunge, asks_flags, asks_name, asks_subscription, asks_messages, asks_mailbox}
use Rattle.model.specs.Listing.{concerns, asks_any}
use Rattle.model.specs.declared.Mailbox.{Mailbox}
use Rattle.model.specs.declared.Group.{Group}
use Rattle.model.specs.declared.Session.{Session}
use Rattle.match_groups.specs.Asking.{asks_bit}

-- the id is the selected mailbox's
abbrev pub selects : Session → ℕ → Bool
selects s i = not (eqb i 0) && eqb i s.selected

-- the mailbox with this name and these attributes is told of; `selected` says whether it is the selected one
abbrev pub picked_by : Session → Name → ℕ → Bool → Bool
picked_by s n a selected = bit 4 a && cond selected (selected_asks s asks_any || asked s n a asks_mailbox) (asked s n a asks_any)

-- its STATUS is told
abbrev pub status_by : Session → Name → ℕ → Bool → Bool → Bool
status_by s n a selected wanted = wanted && (not selected && asked s n a asks_messages)

-- the same of a row
abbrev pub is_picked : Session → Mailbox → Bool
is_picked s x = picked_by s (name_of x) x.attributes (selects s x.id)

abbrev pub is_status : Session → Bool → Mailbox → Bool
is_status s wanted x = status_by s (name_of x) x.attributes (selects s x.id) wanted

-- that is the rule's test, for a session that has the same mailbox selected
pub picked_is : (m : Memory) (s : Session) (x : Mailbox) → s.selected ≡ m.session.selected → is_picked s x ≡ (may_list x && concerns m s x)
picked_is m s x e = ap (λ (i : ℕ). picked_by s (name_of x) x.attributes (not (eqb x.id 0) && eqb x.id i)) e

-- ---- asked for one or the other
four : (p a b u v : Bool) → ((p && (a || b)) || (u || v)) ≡ (((p && a) || u) || ((p && b) || v))
four false a b u v = refl
four true true b u v = refl
four true false true true v = refl
four true false true false v = refl
four true false false u v = refl

any_or : (p a b : Group → Bool) (l : List Group)
    → anyb (λ (g : Group). p g && (a g || b g)) l ≡ (anyb (λ (g : Group). p g && a g) l || anyb (λ (g : Group). p g && b g) l)
any_or p a b [] = refl
any_or p a b (x ∷ l) =
    ap (λ (r : Bool). (p x && (a x || b x)) || r) (any_or p a b l)
    ∙ four (p x) (a x) (b x) (anyb (λ (g : Group). p g && a g) l) (anyb (λ (g : Group). p g && b g) l)

right : (a b c : Bool) → ((a || b) || c) ≡ (a || (b || c))
right true b c = refl
right false b c = refl

module _ (p : Group → Bool) (l : List Group) where
  abbrev has : (Group → Bool) → Bool
  has a = anyb (λ (g : Group). p g && a g) l

  messages_or : has asks_messages ≡ (has (asks_bit 0) || (has (asks_bit 1) || has (asks_bit 2)))
  messages_or =
      any_or p (λ (g : Group). asks_new g || asks_expunge g) asks_flags l
      ∙ (ap (λ (r : Bool). r || has asks_flags) (any_or p asks_new asks_expunge l) ∙ right (has asks_new) (has asks_expunge) (has asks_flags))

  mailbox_or : has asks_mailbox ≡ (has (asks_bit 3) || has (asks_bit 4))
  mailbox_or = any_or p asks_name asks_subscription l

  any_is : has asks_any ≡ (has asks_messages || has asks_mailbox)
  any_is = any_or p asks_messages asks_mailbox l

pub selected_any : (s : Session) → selected_asks s asks_any ≡ ((selected_asks s (asks_bit 0) || (selected_asks s (asks_bit 1) || selected_asks s (asks_bit 2))) || (selected_asks s (asks_bit 3) || selected_asks s (asks_bit 4)))
selected_any s =
    any_is (λ (g : Group). is_selecting g.selector) (groups_of s)
    ∙ ap₂ (λ (a b : Bool). a || b) (messages_or (λ (g : Group). is_selecting g.selector) (groups_of s)) (mailbox_or (λ (g : Group). is_selecting g.selector) (groups_of s))

last : (a : Bool) → (a || true) ≡ true
last true = refl
last false = refl

none : (a : Bool) → (a || false) ≡ a
none true = refl
none false = refl

-- ---- ladders, as code takes them
module _ (s : Session) (n : Name) (a : ℕ) where
  asks_any_lem : asked s n a asks_any ≡ (asked s n a asks_messages || asked s n a asks_mailbox)
  asks_any_lem = any_is (λ (g : Group). meets s n a g.selector) (groups_of s)

  -- who is told of
  pub picked_mailbox : (b : Bool) → bit 4 a ≡ true → asked s n a asks_mailbox ≡ true → true ≡ picked_by s n a b
  picked_mailbox true e f = sym (ap₂ (λ (u v : Bool). u && (selected_asks s asks_any || v)) e f ∙ last (selected_asks s asks_any))
  picked_mailbox false e f =
      sym (ap₂ (λ (u v : Bool). u && v) e (asks_any_lem ∙ (ap (λ (v : Bool). asked s n a asks_messages || v) f ∙ last (asked s n a asks_messages))))

  pub picked-other : (r b : Bool) → bit 4 a ≡ true → asked s n a asks_mailbox ≡ false → b ≡ false → r ≡ asked s n a asks_messages → r ≡ picked_by s n a b
  picked-other r b e f h g =
      g ∙ sym (ap₂ (λ (u c : Bool). u && cond c (selected_asks s asks_any || asked s n a asks_mailbox) (asked s n a asks_any)) e h
      ∙ (asks_any_lem ∙ (ap (λ (v : Bool). asked s n a asks_messages || v) f ∙ none (asked s n a asks_messages))))

-- What a search asks, which rows it searches, and what it finds in them. Assumes nothing.
use Rattle.std.specs.Prelude.{◌≡◌, refl, Option, Some, None, Bool, true, false, ◌&&◌, List, ℕ, ◌+◌, ◌≤◌, length, take}
use Rattle.std.proofs.Common.{ap, ◌∙◌, arith}
use Rattle.model.specs.Lists.{anyb, apart}
use Rattle.model.specs.Requests.{Filter, Search, search}
use Rattle.model.specs.Reading.{ok}
use Rattle.model.specs.SearchGrammar.{search_at}
use Rattle.model.specs.Commands.{command_of}
use Rattle.model.specs.Limits.{limits, command_too_large}
use Rattle.model.specs.Lawful.{clash}
use Rattle.model.specs.Lines.{render_all}
use Rattle.model.specs.Memory.{Memory, boxes, mails, may_read}
use Rattle.model.specs.Searching.{admits, or_selected, found_lines}
use Rattle.model.specs.declared.Mailbox.{Mailbox}
use Rattle.read_search.specs.Parts.{in_at}
use Rattle.read_search.specs.Searched.{read_search, returns_for, ReadsSearch}
use Rattle.read_sources.specs.Listing.{nothing_listed, add_all, kept_sources}
use Rattle.read_search.specs.declared.Asked.{Asked}
use Rattle.read_sources.specs.declared.Listed.{Listed}
use Rattle.table_messages.specs.Words.{messages}
use Rattle.table_mailboxes.specs.Columns.{Column, Names, Laid}
use Rattle.table_mailboxes.specs.declared.Columns.{Columns}
use Rattle.read_options.specs.declared.Returns.{Returns}
use Rattle.match_sources.specs.Admitting.{Few}
use Rattle.match_sources.specs.Picking.{Noted, picks-searched}
use Rattle.order_mailboxes.specs.Named.{Ordered, Picks}
use Rattle.search_find.specs.Finds.{Held}
use Rattle.search_find.specs.Runs.{Bounded, Found, found_rows}
use Rattle.line_found.specs.Telling.{texts, lines_are}
use Rattle.line_found.specs.Commanded.{asked_read, held_read, listed_read, few_read}
use Rattle.search_hits.specs.Headed.{Behind, Never}
use Rattle.search_hits.specs.declared.Question.{Question}
use Rattle.search_hits.specs.declared.Hits.{Hits}

-- ---- what it asks
-- r is what search q asks, its keys in the cells
pub record Meant (cells : List ℕ) (r : Question) (q : Search) : Type 0 where
  pub keys : Held (take r.filled cells) q.keys
  pub returns : r.wanted ≡ returns_for q
  pub sources : r.listed ≡ add_all nothing_listed (or_selected q.sources)

-- the same of a line, where it is a search
pub record Asks (s cells : List ℕ) (r : Question) : Type 0 where
  pub room : r.filled ≤ length cells
  pub exact : (p : ℕ) (q : Search) → command_of s ≡ ok p (search q) → Meant cells r q

abbrev pub AsksOf : List ℕ → List ℕ → Option Question → Type 0
AsksOf s cells (Some r) = Asks s cells r
AsksOf s cells None = Never s

-- no search: then nothing is owed but room
pub asks_none : (s cells : List ℕ) (r : Question) → r.filled ≡ 0 → Never s → Asks s cells r
asks_none s cells r e never = record { room = omega arith; exact = λ p q h. absurd (never p q h) }

some-none : {A : Type 0} {x : A} → None ≡ Some x → ⊥
some-none f = let z : ◌≡◌ {A = ℕ} 0 1 = cc in omega arith

module _ (s : List ℕ) (at : ℕ) (b : Behind s at) where
  pub sources_none : None ≡ kept_sources (in_at s (at + 1)) → Never s
  sources_none e p q c = some-none (e ∙ listed_read s p q (at + 1) (b.exact p q c))

  pub search_none : (cells cells' : List ℕ) → ReadsSearch s (at + 1) cells cells' None → Never s
  search_none cells cells' x p q c = some-none (x.exact ∙ ap read_search (b.exact p q c))

  pub asks_is : (t : Listed) (j : ℕ) → Some (t, j) ≡ kept_sources (in_at s (at + 1)) → (cells cells' : List ℕ) (a : Asked) (n : ℕ) → ReadsSearch s (at + 1) cells cells' (Some (a, n))
      → length s ≤ 1024 → 4096 ≤ length cells → length cells' ≡ length cells → Asks s cells' (record { listed = t; wanted = a.returns; filled = a.used })
  asks_is t j k cells cells' a n x short room long =
      let u = x.within.short in
      record {
        room = omega arith;
        exact = λ p q h.
            let y = b.exact p q h in
            record {
              keys = held_read s p q (at + 1) y (search_at s (at + 1)) y cells cells' x.cells a n x.exact (omega arith);
              returns = ap (λ (z : Asked). z.returns) (asked_read s p q (search_at s (at + 1)) y a n x.exact);
              sources = ap (λ (z : Listed × ℕ). z.0) (inside (k ∙ listed_read s p q (at + 1) y));
            };
      }
    where
      inside : {x y : Listed × ℕ} → Some x ≡ Some y → x ≡ y
      inside z = cc

-- ---- which rows it searches
abbrev pub Sought : Memory → List Filter → Mailbox → Bool
Sought m fs x = may_read x && anyb (admits m x) fs

pub record Chooses (t : Listed) (s : ℕ) (c : Columns) (rows : List ℕ) (r : ℕ) : Type 0 where
  pub few : r ≤ c.n
  pub exact : (m : Memory) (validities nexts counters : List ℕ) (fs : List Filter) → length (boxes m) ≡ c.n → Laid (boxes m) c.ids c.attributes c.lens validities nexts counters c.names
      → m.session.selected ≡ s → Few fs → t ≡ add_all nothing_listed fs → Ordered (Sought m fs) (boxes m) rows r

module _ (t : Listed) (s : ℕ) (c : Columns) (picked : List ℕ) (noted : Noted t s c.ids c.attributes c.lens c.names c.n picked) (rows : List ℕ) (r : ℕ) (few : r ≤ c.n) where
  pub chooses : ((p : Mailbox → Bool) (l : List Mailbox) → length l ≡ c.n → Column (λ (x : Mailbox). x.namelen) l c.lens → Names l c.names → Picks p l c.n picked → Ordered p l rows r) → Chooses t s c rows r
  chooses o = record {
    few = few;
    exact = λ m validities nexts counters fs long w same small is.
        let notes : Noted t m.session.selected c.ids c.attributes c.lens c.names (length (boxes m)) picked = rw (same, long) noted in
        let picks = picks-searched fs small t is m (boxes m) c.ids c.attributes c.lens c.names picked w.id w.attribute w.len w.name notes in
        o (Sought m fs) (boxes m) long w.len w.name (λ k h. picks k (omega arith));
  }

-- ---- what it finds
-- memory m is the one that is searched: its messages, its session and its mailboxes, and what lawful memory says of them
pub record Searches (m : Memory) (words : List ℕ) (s told : ℕ) (c : Columns) (validities nexts counters : List ℕ) : Type 0 where
  pub messages : mails m ≡ messages words
  pub selected : m.session.selected ≡ s
  pub view : m.session.told ≡ told
  pub long : length (boxes m) ≡ c.n
  pub columns : Laid (boxes m) c.ids c.attributes c.lens validities nexts counters c.names
  pub few : length (mails m) ≤ 1024
  pub distinct : apart clash (boxes m) ≡ true

-- the columns with these UIDVALIDITYs
abbrev pub dated : Columns → List ℕ → Columns
dated c validities = record { n = c.n; ids = c.ids; attributes = c.attributes; lens = c.lens; validities = validities; nexts = c.nexts; counters = c.counters; names = c.names; few = c.few }

-- for a line that is a search and no too large one, the runs at the first places of an order of rows give its lines
pub record Gathers (text words : List ℕ) (s told : ℕ) (c : Columns) (rows uids starts counts : List ℕ) (r : Hits) : Type 0 where
  pub few : r.rows ≤ c.n
  pub bounded : Bounded starts counts 0 r.rows
  pub exact : (m : Memory) (validities nexts counters : List ℕ) → Searches m words s told c validities nexts counters
      → (p : ℕ) (q : Search) → command_of text ≡ ok p (search q) → command_too_large limits (search q) ≡ false
      → (tag : List ℕ) → texts tag (dated c validities) rows r.wanted uids starts counts r.rows ≡ render_all (found_lines m tag q)

module _ (text words : List ℕ) (s told : ℕ) (c : Columns) (w : c.n ≤ 64) (cells : List ℕ) (a : Question) (asks : Asks text cells a)
    (rows : List ℕ) (k : ℕ) (chose : Chooses a.listed s c rows k) (room : k ≤ length rows)
    (uids starts counts : List ℕ) (cut : Found (messages words) c.ids (take k rows) (length (take k rows)) s told (take a.filled cells) uids starts counts) where
  pub gathers : Gathers text words s told c rows uids starts counts (record { wanted = a.wanted; rows = k })
  gathers =
      let found = found_rows (messages words) c.ids rows k s told (take a.filled cells) uids starts counts room cut in
      record {
        few = chose.few;
        bounded = found.bounded;
        exact = λ m validities nexts counters is p q e small tag.
            let meant = asks.exact p q e in
            let o = chose.exact m validities nexts counters (or_selected q.sources) is.long is.columns is.selected (few_read q small) meant.sources in
            let l = is.long in
            let v = is.columns in
            let f : Found (mails m) c.ids rows k m.session.selected m.session.told (take a.filled cells) uids starts counts = rw (is.messages, is.selected, is.view) found in
            ap (λ (v : Returns). texts tag (dated c validities) rows v uids starts counts k) meant.returns
            ∙ lines_are m q tag (boxes m) (omega arith) (dated c validities) rows v.id v.len v.name v.validity uids starts counts
            k (take a.filled cells) refl is.few is.distinct o.low o.order meant.keys f;
      }

-- The columns as one value. Assumes nothing.
use Rattle.std.specs.Prelude.{◌≡◌, refl, List, ℕ, ◌+◌, ◌*◌, ◌<◌, length, get_or, set, replicate}
use Rattle.std.proofs.Math.Seq.{paste}
use Rattle.model.specs.Memory.{no_mailbox, counter_of}
use Rattle.model.specs.declared.Mailbox.{Mailbox}
use Rattle.table_mailboxes.specs.declared.Columns.{Columns}
use Rattle.table_mailboxes.specs.Columns.{Laid}
use Rattle.table_mailboxes.specs.Filling.{Filling, filling_next}

-- these rows, and no other, by columns
abbrev pub LaidIn : List Mailbox → Columns → Type 0
LaidIn l c = (length l ≡ c.n) × Laid l c.ids c.attributes c.lens c.validities c.nexts c.counters c.names

-- no rows, and zeros
pub record Blank (c : Columns) : Type 0 where
  pub n : c.n ≡ 0
  pub ids : c.ids ≡ replicate 64 0
  pub attributes : c.attributes ≡ replicate 64 0
  pub lens : c.lens ≡ replicate 64 0
  pub validities : c.validities ≡ replicate 64 0
  pub nexts : c.nexts ≡ replicate 64 0
  pub counters : c.counters ≡ replicate 64 0
  pub names : c.names ≡ replicate 4096 0

-- row k becomes x
pub record Put (k : ℕ) (x : Mailbox) (a b : Columns) : Type 0 where
  pub n : b.n ≡ a.n
  pub ids : b.ids ≡ set a.ids k x.id
  pub attributes : b.attributes ≡ set a.attributes k x.attributes
  pub lens : b.lens ≡ set a.lens k x.namelen
  pub validities : b.validities ≡ set a.validities k x.uidvalidity
  pub nexts : b.nexts ≡ set a.nexts k x.uidnext
  pub counters : b.counters ≡ set a.counters k (counter_of x)
  pub names : b.names ≡ paste a.names (64 * k) x.name 64
  pub long : length b.names ≡ 4096
  pub wide : length x.name ≡ 64

-- one row more is laid out
pub filling_put : (rows : List Mailbox) (i : ℕ) (x : Mailbox) (a b : Columns) → i < 64 → x ≡ get_or rows i no_mailbox → Put i x a b
    → Filling rows i a.ids a.attributes a.lens a.validities a.nexts a.counters a.names → Filling rows (i + 1) b.ids b.attributes b.lens b.validities b.nexts b.counters b.names
filling_put rows i x a b h e p f =
    rw (p.ids, p.attributes, p.lens, p.validities, p.nexts, p.counters) (filling_next rows a.ids a.attributes a.lens a.validities a.nexts a.counters a.names i f x x.id x.uidvalidity x.uidnext (counter_of x) b.names h e p.wide refl refl refl refl p.names p.long)

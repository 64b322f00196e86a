-- `key_at` and `keys_at`: each case is one of the grammar, by its law in KeyLaws. Assumes nothing.
use mathlib.Core.Path.{sym, ◌∙◌}
use Prim.Native.Nat.{◌-◌}
use native.Mathlib.Omega.{arith}
use Rattle.read_keys.specs.Keys.{ending_of}
use Rattle.read_keys.proofs.KeyLaws.{key-wrong, key-single, non_none, key-non, group_none, key-group, either_none, either_one, either_half, either_two}
use Rattle.read_keys.proofs.KeyLaws.{keys_none, keys_half, keys-more, keys-wrong, keys_over}
use Rattle.read_keys.proofs.+key_at_keys_at.Goals as goal

pub key_at-returns-in_err-next : goal.key_at-returns-in_err-next
key_at-returns-in_err-next t c =
    rw c.from_residual.ensures record { within = tt; exact = λ m h. key-wrong c.args.text.now c.args.at m c.args.cells.now c.begin.new.cells c.args.n c.in_err-next.ensures.exact }

pub key_at-returns-in-One : goal.key_at-returns-in-One
key_at-returns-in-One t c =
    let w = rw c.in-One.is at c.in_ok-next.ensures.within in
    record {
      within = omega arith;
      exact = λ m h. key-single c.args.text.now c.args.at m (omega arith) c.in_ok-next.field-0 c.args.cells.now c.begin.new.cells
          c.args.n c.in_ok-next.ensures.exact c.in-One.is;
    }

pub key_at-returns-in_err-key-in-Negation : goal.key_at-returns-in_err-key-in-Negation
key_at-returns-in_err-key-in-Negation t c =
    let w = rw c.in-Negation.is at c.in_ok-next.ensures.within in
    rw c.from_residual-in_err-key-in-Negation.ensures record {
      within = tt;
      exact = λ m h. non_none c.args.text.now c.args.at m (omega arith) c.in_ok-next.field-0 c.args.cells.now c.begin.new.cells c.args.n
          c.in_ok-next.ensures.exact c.key_at.new.cells c.in-Negation.is (c.in_err-key-in-Negation.ensures.exact (m - 1) (omega arith));
    }

pub key_at-returns-in_ok-key-in-Negation : goal.key_at-returns-in_ok-key-in-Negation
key_at-returns-in_ok-key-in-Negation t c =
    let w = rw c.in-Negation.is at c.in_ok-next.ensures.within in
    let v = c.in_ok-key-in-Negation.ensures.within in
    record {
      within = rw c.closed.ensures.answer (omega arith);
      exact =
          λ m h.
          key-non c.args.text.now c.args.at m (omega arith) c.in_ok-next.field-0 c.args.cells.now c.begin.new.cells c.args.n c.in_ok-next.ensures.exact c.key_at.new.cells c.in-Negation.is
          c.closed.new.cells c.in_ok-key-in-Negation.key c.closed.result (c.in_ok-key-in-Negation.ensures.exact (m - 1) (omega arith)) c.closed.ensures;
    }

pub key_at-returns-in_err-keys-in-Opening : goal.key_at-returns-in_err-keys-in-Opening
key_at-returns-in_err-keys-in-Opening t c =
    let w = rw c.in-Opening.is at c.in_ok-next.ensures.within in
    rw c.from_residual-in_err-keys-in-Opening.ensures record {
      within = tt;
      exact = λ m h. group_none c.args.text.now c.args.at m (omega arith) c.in_ok-next.field-0 c.args.cells.now c.begin.new.cells c.args.n
          c.in_ok-next.ensures.exact c.keys_at.new.cells c.in-Opening.is (c.in_err-keys-in-Opening.ensures.exact (m - 1) (omega arith));
    }

pub key_at-returns-in_ok-keys-in-Opening : goal.key_at-returns-in_ok-keys-in-Opening
key_at-returns-in_ok-keys-in-Opening t c =
    let w = rw c.in-Opening.is at c.in_ok-next.ensures.within in
    let v = c.in_ok-keys-in-Opening.ensures.within in
    record {
      within = rw c.closed-in-Opening.ensures.answer (omega arith);
      exact =
          λ m h.
          key-group c.args.text.now c.args.at m (omega arith) c.in_ok-next.field-0 c.args.cells.now c.begin.new.cells c.args.n c.in_ok-next.ensures.exact c.keys_at.new.cells c.in-Opening.is
          c.closed-in-Opening.new.cells c.in_ok-keys-in-Opening.keys c.closed-in-Opening.result (c.in_ok-keys-in-Opening.ensures.exact (m - 1) (omega arith))
          c.closed-in-Opening.ensures;
    }

pub key_at-returns-in_err-first-in-Alternation : goal.key_at-returns-in_err-first-in-Alternation
key_at-returns-in_err-first-in-Alternation t c =
    let w = rw c.in-Alternation.is at c.in_ok-next.ensures.within in
    rw c.from_residual-in_err-first-in-Alternation.ensures record {
      within = tt;
      exact =
          λ m h. either_none c.args.text.now c.args.at m (omega arith) c.in_ok-next.field-0 c.args.cells.now c.begin.new.cells c.args.n
          c.in_ok-next.ensures.exact c.key_at-in-Alternation.new.cells c.in-Alternation.is (c.in_err-first-in-Alternation.ensures.exact (m - 1) (omega arith));
    }

pub key_at-returns-in_err-q-in-Alternation : goal.key_at-returns-in_err-q-in-Alternation
key_at-returns-in_err-q-in-Alternation t c =
    let w = rw c.in-Alternation.is at c.in_ok-next.ensures.within in
    rw c.from_residual-in_err-q-in-Alternation.ensures record {
      within = tt;
      exact =
          λ m h.
          either_one c.args.text.now c.args.at m (omega arith) c.in_ok-next.field-0 c.args.cells.now c.begin.new.cells c.args.n c.in_ok-next.ensures.exact
          c.key_at-in-Alternation.new.cells c.in-Alternation.is
          c.in_ok-first-in-Alternation.first (c.in_ok-first-in-Alternation.ensures.exact (m - 1) (omega arith)) c.in_err-q-in-Alternation.ensures.exact;
    }

pub key_at-returns-in_err-second-in-Alternation : goal.key_at-returns-in_err-second-in-Alternation
key_at-returns-in_err-second-in-Alternation t c =
    let w = rw c.in-Alternation.is at c.in_ok-next.ensures.within in
    let v = c.in_ok-first-in-Alternation.ensures.within in
    let u = c.in_ok-q-in-Alternation.ensures.within in
    rw c.from_residual-in_err-second-in-Alternation.ensures record {
      within = tt;
      exact =
          λ m h.
          either_half c.args.text.now c.args.at m (omega arith) c.in_ok-next.field-0 c.args.cells.now c.begin.new.cells c.args.n c.in_ok-next.ensures.exact
          c.key_at-in-Alternation.new.cells c.in-Alternation.is
          c.in_ok-first-in-Alternation.first (c.in_ok-first-in-Alternation.ensures.exact (m - 1) (omega arith)) c.in_ok-q-in-Alternation.ensures.exact
          c.key_at-in-Alternation-2.new.cells (c.in_err-second-in-Alternation.ensures.exact (m - 1) (omega arith));
    }

pub key_at-returns-in_ok-second-in-Alternation : goal.key_at-returns-in_ok-second-in-Alternation
key_at-returns-in_ok-second-in-Alternation t c =
    let w = rw c.in-Alternation.is at c.in_ok-next.ensures.within in
    let v = c.in_ok-first-in-Alternation.ensures.within in
    let u = c.in_ok-q-in-Alternation.ensures.within in
    let x = c.in_ok-second-in-Alternation.ensures.within in
    record {
      within = rw (c.closed-in-Alternation.ensures.answer, c.joined.ensures) (omega arith);
      exact =
          λ m h.
          either_two c.args.text.now c.args.at m (omega arith) c.in_ok-next.field-0 c.args.cells.now c.begin.new.cells c.args.n c.in_ok-next.ensures.exact
          c.key_at-in-Alternation.new.cells c.in-Alternation.is
          c.in_ok-first-in-Alternation.first (c.in_ok-first-in-Alternation.ensures.exact (m - 1) (omega arith)) c.in_ok-q-in-Alternation.ensures.exact
          c.key_at-in-Alternation-2.new.cells c.closed-in-Alternation.new.cells c.in_ok-second-in-Alternation.second c.joined.result c.closed-in-Alternation.result
          (c.in_ok-second-in-Alternation.ensures.exact (m - 1) (omega arith)) c.joined.ensures c.closed-in-Alternation.ensures;
    }

pub keys_at-returns-in_err-first : goal.keys_at-returns-in_err-first
keys_at-returns-in_err-first t c =
    rw c.from_residual.ensures record {
      within = tt;
      exact = λ m h. keys_none (ending_of c.args.e) c.args.text.now c.args.at m (omega arith) c.args.cells.now
          c.key_at.new.cells c.args.n (c.in_err-first.ensures.exact (m - 1) (omega arith));
    }

pub keys_at-returns-in_err-rest : goal.keys_at-returns-in_err-rest
keys_at-returns-in_err-rest t c =
    let v = c.in_ok-first.ensures.within in
    rw c.from_residual-in_err-rest.ensures record {
      within = tt;
      exact = λ m h. keys_half (ending_of c.args.e) c.args.text.now c.args.at m (omega arith) c.args.cells.now c.key_at.new.cells c.args.n c.in_ok-first.first
          (c.in_ok-first.ensures.exact (m - 1) (omega arith)) (sym c.octet_at.ensures ∙ c.if-octet_at-eq32.true) c.keys_at.new.cells (c.in_err-rest.ensures.exact (m - 1) (omega arith));
    }

pub keys_at-returns-then-octet_at-eq32 : goal.keys_at-returns-then-octet_at-eq32
keys_at-returns-then-octet_at-eq32 t c =
    let v = c.in_ok-first.ensures.within in
    let w = c.in_ok-rest.ensures.within in
    record {
      within = rw c.joined.ensures (omega arith);
      exact =
          λ m h.
          keys-more (ending_of c.args.e) c.args.text.now c.args.at m (omega arith) c.args.cells.now c.key_at.new.cells c.args.n c.in_ok-first.first
          (c.in_ok-first.ensures.exact (m - 1) (omega arith)) (sym c.octet_at.ensures ∙ c.if-octet_at-eq32.true) c.keys_at.new.cells c.in_ok-rest.rest
          c.joined.result (c.in_ok-rest.ensures.exact (m - 1) (omega arith)) c.joined.ensures;
    }

pub keys_at-returns-in_err-next : goal.keys_at-returns-in_err-next
keys_at-returns-in_err-next t c =
    let v = c.in_ok-first.ensures.within in
    rw c.from_residual-in_err-next.ensures record {
      within = tt;
      exact = λ m h. keys-wrong (ending_of c.args.e) c.args.text.now c.args.at m (omega arith)
          c.args.cells.now c.key_at.new.cells c.args.n c.in_ok-first.first (c.in_ok-first.ensures.exact (m - 1) (omega arith))
          (λ e. c.if-octet_at-eq32.false (c.octet_at.ensures ∙ e)) c.in_err-next.ensures.exact;
    }

pub keys_at-returns : goal.keys_at-returns
keys_at-returns t c =
    let v = c.in_ok-first.ensures.within in
    let w = c.in_ok-next.ensures.within in
    record {
      within = omega arith;
      exact = λ m h. keys_over (ending_of c.args.e) c.args.text.now c.args.at m (omega arith) c.args.cells.now c.key_at.new.cells c.args.n c.in_ok-first.first
          (c.in_ok-first.ensures.exact (m - 1) (omega arith)) (λ e. c.if-octet_at-eq32.false (c.octet_at.ensures ∙ e)) c.in_ok-next.ensures.exact;
    }

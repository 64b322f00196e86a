-- Request 3 over streams, proved of the definitions: the reason is the account's own word for what became of the record. Assumes nothing.
use Rattle.std.specs.Prelude.{◌≡◌, List, true, leb, length}
use Rattle.model.specs.Memory.{Memory}
use Rattle.model.specs.Lawful.{queue_ok}
use Rattle.model.specs.Hidden.{Octets, Starts}
use Rattle.model.specs.Seen.{final}
use Rattle.model.specs.Due.{opened}
use Rattle.model.specs.Account.{account_of}
use Rattle.model.specs.Reasoned.{ReasonOwed, Reasoned}
use Rattle.demands.specs.Ledger.Streams.{Stands, stands_on, opening}
use Rattle.demands.specs.Reasons.Owed.{account, wrote, overflowed, silent}
use Rattle.demands.specs.Reasons.Waiting.{waited, arriving, expunging}

reason-owed : (m : Memory) (os : List Octets) (o : Octets) → Stands (final m os) (account_of m os) → ReasonOwed m os o
reason-owed m os o s =
    let n = final m os in
    let a = account_of m os in
    record {
      account = account n a s o;
      written = λ g e. let t = wrote n a s o g e in record { own = t.0; some = t.1; first = t.2 };
      overflowed = overflowed n a s o;
      silent = silent n a s o;
      waiting = λ c e. let t = waited n a s o c e in record { debt = t.0; can = t.1; from = t.2 };
      arrives = λ i u f z h c e p q. arriving n a s o p.taken i p.selected p.rights p.roomy u f z h c e q;
      expunges = λ i u h c e p q. expunging n a s o p.taken i p.selected p.rights p.roomy u h c e q;
    }

pub reasoned : (m : Memory) → Starts m m → queue_ok (length m.queue) ≡ true → leb (length m.rows) 64 ≡ true → leb (length m.entries) 1024 ≡ true → Reasoned m
reasoned m z q r e os o = reason-owed m os o (stands_on m opened (opening m z q r e) os)

-- What the readers of events answer: which events are asked for, and which attributes behind them. Assumes nothing: these are definitions.
use Rattle.std.specs.Prelude.{◌≡◌, Option, Some, None, true, false, ◌||◌, List, ℕ, ◌+◌, ◌-◌, ◌≤◌, length}
use Rattle.model.specs.Lists.{anyb, concat_map}
use Rattle.model.specs.Requests.{Event, is_new, is_expunge, is_flag_change, is_annotation_change, is_mailbox_name, is_subscription_change, is_other, attributes_of}
use Rattle.model.specs.Replies.{has_attributes}
use Rattle.model.specs.Reading.{Parsed}
use Rattle.model.specs.NotifyGrammar.{event_at}
use Rattle.octets.specs.Joined.{read_by}
use Rattle.read_attributes.specs.Asked.{gather, both}
use Rattle.read_attributes.specs.declared.Attributes.{Attributes}
use Rattle.read_events.specs.declared.Events.{Events}

-- which events occur in a list, whether attributes stand behind one of them, and which
abbrev pub gather_events : List Event → Events
gather_events es = record {
  new = anyb is_new es;
  expunge = anyb is_expunge es;
  flag = anyb is_flag_change es;
  annotation = anyb is_annotation_change es;
  name = anyb is_mailbox_name es;
  subscription = anyb is_subscription_change es;
  other = anyb is_other es;
  listed = anyb has_attributes es;
  attributes = gather (concat_map attributes_of es);
}

-- one event alone
abbrev pub single : Event → Events
single e = record {
  new = is_new e;
  expunge = is_expunge e;
  flag = is_flag_change e;
  annotation = is_annotation_change e;
  name = is_mailbox_name e;
  subscription = is_subscription_change e;
  other = is_other e;
  listed = has_attributes e;
  attributes = gather (attributes_of e);
}

-- what was read, as the code answers it
abbrev pub read_event : Parsed Event → Option (Events × ℕ)
read_event x = read_by single x

abbrev pub read_single : List ℕ → ℕ → Option (Events × ℕ)
read_single s p = read_event (event_at s p)

abbrev pub read_events : Parsed (List Event) → Option (Events × ℕ)
read_events x = read_by gather_events x

-- MessageNew with attributes behind it
abbrev pub with_attributes : Attributes → Events
with_attributes a = record {
  new = true;
  expunge = false;
  flag = false;
  annotation = false;
  name = false;
  subscription = false;
  other = false;
  listed = true;
  attributes = a;
}

-- two lists of events together
abbrev pub merge : Events → Events → Events
merge a b = record {
  new = a.new || b.new;
  expunge = a.expunge || b.expunge;
  flag = a.flag || b.flag;
  annotation = a.annotation || b.annotation;
  name = a.name || b.name;
  subscription = a.subscription || b.subscription;
  other = a.other || b.other;
  listed = a.listed || b.listed;
  attributes = both a.attributes b.attributes;
}

-- r is the answer x of the definitions, where nothing may stand at all
abbrev pub Onward : List ℕ → ℕ → Option (Events × ℕ) → Type 0
Onward s at (Some (e, p)) = (at ≤ p) × (p ≤ at + (length s - at))
Onward s at None = Unit {0}

pub record ReadsNew (s : List ℕ) (at : ℕ) (x r : Option (Events × ℕ)) : Type 0 where
  pub exact : r ≡ x
  pub within : Onward s at r

-- Lists of calls at one switch, any bytes received (document 01, "Controller end", the run). Assumes nothing.
use Rattle.std.specs.Prelude.{ℕ, List, [], ◌∷◌, ◌++◌, eqb}
use Rattle.answer.specs.Ask.{pick}
use Rattle.lists.specs.Bytes.{field}
use Rattle.message.specs.Layout.{number_at}
use Rattle.switch.specs.Receiving.{received_by}
use Rattle.switch.specs.Raising.{raised_by}
use Rattle.switch.specs.Writing.{Kind, message_written}
use Rattle.switch.specs.declared.Reply.{Reply}
use Rattle.switch.specs.declared.Switch.{Switch}

-- a call that no other end sees, with what the caller brings: a cause
pub data Managing : Type 0 where
  raises : ℕ → Managing

-- a call, with what the caller brings: bytes; a controller, a frame and an offset; or a call that no other end sees
pub data Call : Type 0 where
  receives : List ℕ → Call
  writes : Kind → ℕ → List ℕ → ℕ → Call
  manages : Managing → Call

-- what a call that no other end sees replies
abbrev pub managed_by : Switch → Managing → Reply
managed_by s (raises cause) = raised_by s cause

-- the number in the bytes of a share that a call brings
abbrev pub number_in : Call → List ℕ
number_in (receives bytes) = field bytes number_at 4 ∷ []
number_in (writes kind c frame at) = []
number_in (manages m) = []

module _ (keys : List ℕ) where
  -- what a call replies
  abbrev pub reply_to : Switch → Call → Reply
  reply_to s (receives bytes) = received_by s keys bytes
  reply_to s (writes kind c frame at) = (message_written kind s keys c frame at).0
  reply_to s (manages m) = managed_by s m

  -- the state after a list of calls, each getting the state that the last one returned
  unfoldable pub after : Switch → List Call → Switch
  after s [] = s
  after s (x ∷ xs) = after (reply_to s x).state xs

  -- the numbers of the shares answered 1, in order of answer
  unfoldable pub made : Switch → List Call → List ℕ
  made s [] = []
  made s (x ∷ xs) = pick (eqb (reply_to s x).answer 1) (number_in x) [] ++ made (reply_to s x).state xs

-- What a call of the program did, by its status.
use Rattle.std.specs.Prelude.{◌≡◌, ℕ, Bool, List, Option, Some, None, true, false, ⊤}
use Rattle.std.specs.Io.KnownBytes.{Appends}
use Rattle.kan_base.specs.Faults.{one_more}
use Rattle.kan_base.specs.Views.{SinkView}
use Rattle.kan_base.specs.Writes.{PutsFront}
use Rattle.kan_base.specs.declared.status.Status.{Status}
use Rattle.kan_base.specs.declared.status.Status.TheVariants.{Done, Fuel, Usage, Text, ReadFault}
use Rattle.kan_base.specs.declared.status.Status.TheVariants.{WriteFault, TooLong, Memory}
use Rattle.command_line.specs.Lines.{Line}
use Rattle.kanren_run.specs.Commands.{line_alone}
use Rattle.kanren_run.specs.Settings.{settings_of}
use Rattle.kanren_run.specs.Origins.{Origin, origin_of, Ends, IsOpened, GetsWhole, GetsAtMost}
use Rattle.kanren_run.specs.Origins.{GetsTooMuch, IsThere}
use Rattle.kanren_run.specs.Answers.{reply_to, answer_bytes, AreInForm, Runs, IsRefused}
use Rattle.kanren_run.specs.declared.settings.Settings.{Settings}

-- all that is written for a text was put
abbrev pub PutWhole : Settings → List ℕ → Option (List ℕ) → Option (List ℕ) → Type 0
PutWhole s text put after = Appends put after (answer_bytes s text)

-- a front of what is written for a text was put, and its answers are in form
pub record PutFront (s : Settings) (text : List ℕ) (put after : Option (List ℕ)) : Type 0 where
  pub front : PutsFront put after (answer_bytes s text)
  pub in_form : AreInForm s.fuel (reply_to s text)

-- a text was got whole and is accepted, and its output was put; it is said whether some run spent
-- its fuel
pub record Ran (o : Origin) (s : Settings) (e : Ends) (spent : Bool) : Type 0 where
  pub text : List ℕ
  pub got : GetsWhole o e text
  pub runs : Runs s text spent
  pub put : PutWhole s text e.sink.put e.sink_after.put

-- a text was got whole and is refused, and the line that says so was put
pub record Refused (o : Origin) (s : Settings) (e : Ends) (at number : ℕ) : Type 0 where
  pub text : List ℕ
  pub got : GetsWhole o e text
  pub refused : IsRefused s text at number
  pub put : PutWhole s text e.sink.put e.sink_after.put

-- nothing was put
abbrev pub PutNothing : Ends → Type 0
PutNothing e = e.sink_after.put ≡ e.sink.put

-- a text was got whole, and a front of what is written for it was put
abbrev pub PutSome : Origin → Settings → Ends → Type 0
PutSome o s e = (text : List ℕ) × GetsWhole o e text × PutFront s text e.sink.put e.sink_after.put

-- the source and the sink are as they were
pub record Untouched (e : Ends) : Type 0 where
  pub source : e.source_after ≡ e.source
  pub sink : e.sink_after ≡ e.sink

-- Want of memory: nothing was done; or nothing was put, and the text was read as far as memory
-- went; or it was got whole, and a front of what is written for it was put.
pub data WantedMemory (o : Origin) (s : Settings) (e : Ends) : Type 0 where
  at_once : Untouched e → WantedMemory o s e
  before : PutNothing e → GetsAtMost o e → WantedMemory o s e
  while_writing : PutSome o s e → WantedMemory o s e

-- the status of words that are no line of the command
abbrev pub is_usage : Status → Bool
is_usage Usage = true
is_usage s = false

-- the status of a text that is refused
abbrev pub is_refusal : Status → Bool
is_refusal (Text at number) = true
is_refusal s = false

-- what each status says of a call that answers a text; no load is refused
abbrev pub Outcome : Origin → Settings → Ends → Status → Type 0
Outcome o s e Done = Ran o s e false
Outcome o s e Fuel = Ran o s e true
Outcome o s e Usage = Untouched e
Outcome o s e (Text at number) = Refused o s e at number × IsOpened o
Outcome o s e ReadFault = PutNothing e
Outcome o s e WriteFault = PutSome o s e
Outcome o s e TooLong = GetsTooMuch o e × PutNothing e
Outcome o s e Memory = WantedMemory o s e

-- How many calls of the source have failed, and of the sink: one more where the status says so,
-- else as many as before.
abbrev pub read_faults_after : Status → ℕ → ℕ
read_faults_after ReadFault faults = one_more faults
read_faults_after s faults = faults

abbrev pub write_faults_after : Status → ℕ → ℕ
write_faults_after WriteFault faults = one_more faults
write_faults_after s faults = faults

pub record CountsFaults (e : Ends) (s : Status) : Type 0 where
  pub reads : e.source_after.faults ≡ read_faults_after s e.source.faults
  pub writes : e.sink_after.faults ≡ write_faults_after s e.sink.faults

-- no call of the source or of the sink was counted as one that failed
pub record NoneFailed (e : Ends) : Type 0 where
  pub reads : e.source_after.faults ≡ one_more e.source.faults → ⊥
  pub writes : e.sink_after.faults ≡ one_more e.sink.faults → ⊥

-- what a text is answered with where nothing fails
abbrev pub AnswersText : Settings → List ℕ → Status → Type 0
AnswersText s text Done = Runs s text false
AnswersText s text Fuel = Runs s text true
AnswersText s text (Text at number) = IsRefused s text at number
AnswersText s text Memory = ⊤
AnswersText s text _ = ⊥

-- Where none failed and the text is told that is asked for, the answer is the one that it has, or
-- want of memory.
abbrev pub IsComplete : Origin → Settings → Ends → Status → Type 0
IsComplete o s e status =
    (text : List ℕ) → IsThere o e text → NoneFailed e → AnswersText s text status

-- what is said of the answering of a text from an origin under some settings
pub record IsFaithfulAt (o : Origin) (s : Settings) (e : Ends) (status : Status) : Type 0 where
  pub outcome : Outcome o s e status
  pub answered : is_usage status ≡ false
  pub counts : CountsFaults e status
  pub complete : IsComplete o s e status

-- the statuses of words that are no line of the command: that they are none, or want of memory
abbrev pub says_no_line : Status → Bool
says_no_line Usage = true
says_no_line Memory = true
says_no_line s = false

-- what is said of a call whose words are no line of the command
pub record IsNoLine (e : Ends) (status : Status) : Type 0 where
  pub untouched : Untouched e
  pub told : says_no_line status ≡ true

-- what is said of a call by the line that its words are, if they are one
abbrev pub IsFaithfulTo : Option Line → Ends → Status → Type 0
IsFaithfulTo (Some l) e status = IsFaithfulAt (origin_of l) (settings_of l) e status
IsFaithfulTo None e status = IsNoLine e status

-- What is said of a call by its words, its ends and its status. Where the words are a line of the
-- command: its outcome by its status, which isn't Usage; how many calls of its ends failed; and
-- that it has the answer of the text where none did. Where they are none: the status is Usage, or
-- memory was wanting, and all is as it was.
abbrev pub IsFaithful : List (List ℕ) → Ends → Status → Type 0
IsFaithful words e status = IsFaithfulTo (line_alone words) e status

-- nothing was put, or a front of what is written for a text
pub data Wanted (s : Settings) (text : List ℕ) (put after : Option (List ℕ)) : Type 0 where
  nothing : after ≡ put → Wanted s text put after
  some : PutFront s text put after → Wanted s text put after

-- what a status says of the writing of a text that was got whole, into a sink
abbrev pub WritesReply : Settings → List ℕ → SinkView → SinkView → Status → Type 0
WritesReply s text old new Done =
    Runs s text false × PutWhole s text old.put new.put × (new.faults ≡ old.faults)
WritesReply s text old new Fuel =
    Runs s text true × PutWhole s text old.put new.put × (new.faults ≡ old.faults)
WritesReply s text old new (Text at number) =
    IsRefused s text at number × PutWhole s text old.put new.put × (new.faults ≡ old.faults)
WritesReply s text old new WriteFault =
    PutFront s text old.put new.put × (new.faults ≡ one_more old.faults)
WritesReply s text old new Memory = Wanted s text old.put new.put × (new.faults ≡ old.faults)
WritesReply s text old new _ = ⊥

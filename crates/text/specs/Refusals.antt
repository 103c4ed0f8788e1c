-- The numbers of the refusals, lent tables and texts (SPECIFICATION 8.1, 11.2).
use Rattle.std.specs.Prelude.{ℕ, Option, None, Some}
use Rattle.text.specs.declared.Reason.{Reason}
use Rattle.text.specs.declared.Reason.TheVariants.{IllFormed, LentShort, HeaderBounds, FunctionLine, NodeLine, NodeUse, AgentLine, ContentsRule, LogLine, AgentUnordered, NonBoolean, NotReleasable, NoLabelLeft, ListFull, Clash, UnorderedTouch, NotInUniverse, PickCount}

-- Refusal 1: a line is ill-formed, missing or surplus
abbrev pub ill_formed : ℕ
ill_formed = 1

-- Refusal 2: a lent table is too short, or the program's input too long
abbrev pub lent_short : ℕ
lent_short = 2

-- Refusal 3: the book's header is out of bounds
abbrev pub header_bounds : ℕ
header_bounds = 3

-- Refusal 4: a function line is at fault
abbrev pub function_line : ℕ
function_line = 4

-- Refusal 5: a node line is at fault
abbrev pub node_line : ℕ
node_line = 5

-- Refusal 6: a node's use, binding, depth or nesting
abbrev pub node_use : ℕ
node_use = 6

-- Refusal 7: an agent line is at fault
abbrev pub agent_line : ℕ
agent_line = 7

-- Refusal 8: contents break the rules
abbrev pub contents_rule : ℕ
contents_rule = 8

-- Refusal 9: a log line is at fault; of a single move: no such agent, or a pick that is no element
abbrev pub log_line : ℕ
log_line = 9

-- Refusal 10: two moves of one agent are unordered
abbrev pub agent_unordered : ℕ
agent_unordered = 10

-- Refusal 11: a relation is set to a value that is no Boolean
abbrev pub non_boolean : ℕ
non_boolean = 11

-- Refusal 12: what is released is no label, or is on the roll
abbrev pub not_releasable : ℕ
not_releasable = 12

-- Refusal 13: the roll has no label left that is not taken
abbrev pub no_label_left : ℕ
no_label_left = 13

-- Refusal 14: a 257th instruction
abbrev pub list_full : ℕ
list_full = 14

-- Refusal 15: a location clashes
abbrev pub clash : ℕ
clash = 15

-- Refusal 16 is taken and never given: before change F-1 it refused a move that changes nothing (SPECIFICATION 4.10)

-- Refusal 17: unordered moves touch
abbrev pub unordered_touch : ℕ
unordered_touch = 17

-- Refusal 18: a pick is not in the universe of its choose
abbrev pub not_in_universe : ℕ
not_in_universe = 18

-- Refusal 19: a choose lacks a pick, or picks are left over
abbrev pub pick_count : ℕ
pick_count = 19

-- the number of a refusal, by the code's name for it
abbrev pub number_of : Reason → ℕ
number_of IllFormed = ill_formed
number_of LentShort = lent_short
number_of HeaderBounds = header_bounds
number_of FunctionLine = function_line
number_of NodeLine = node_line
number_of NodeUse = node_use
number_of AgentLine = agent_line
number_of ContentsRule = contents_rule
number_of LogLine = log_line
number_of AgentUnordered = agent_unordered
number_of NonBoolean = non_boolean
number_of NotReleasable = not_releasable
number_of NoLabelLeft = no_label_left
number_of ListFull = list_full
number_of Clash = clash
number_of UnorderedTouch = unordered_touch
number_of NotInUniverse = not_in_universe
number_of PickCount = pick_count

-- the number of a refusal that there may be; 0 for none
abbrev pub refusal_number : Option Reason → ℕ
refusal_number None = 0
refusal_number (Some r) = number_of r

-- ---- texts, as the q of refusal 1

abbrev pub book_text : ℕ
book_text = 0

abbrev pub log_text : ℕ
log_text = 1

-- ---- lent tables, as the q of refusal 2; table 4 is the program's input

abbrev pub contents_table : ℕ
contents_table = 0

abbrev pub readers_table : ℕ
readers_table = 1

abbrev pub writers_table : ℕ
writers_table = 2

abbrev pub instructions_table : ℕ
instructions_table = 3

abbrev pub input_table : ℕ
input_table = 4

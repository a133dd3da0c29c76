-- The words of a command line, as lines of commands.
use Rattle.std.specs.Prelude.{◌≡◌, ◌≢◌, ◌≤◌, ◌==◌, ◌-◌, ◌^◌, ⊤, ℕ, nat_eq, nat_lt, get_or, Option, Some, None, Bool, not, ◌&&◌, length, Result, Ok, Err, List, [], ◌∷◌, codes, drop, map, string_bytes, String, if◌then◌else◌}
use Rattle.std.specs.List.{starts_with}
use Rattle.std.specs.Fmt.{decimal}
use Rattle.std.specs.Str.{bytes_eq}
use Rattle.std.specs.Str.Parse.{digits_value}
use Rattle.std.specs.declared.alloc.Global.{Global}
use Rattle.tracker_session.specs.declared.words.Command.{Command}
use Rattle.tracker_session.specs.declared.words.Command.TheVariants as commands
use Rattle.tracker_session.specs.declared.words.WordsError.{WordsError}
use Rattle.tracker_session.specs.declared.words.WordsError.TheVariants as errors

-- the octets of each word
abbrev pub texts : List (String Global) → List (List ℕ)
texts words = map (λ word. string_bytes word) words

-- a command with its words, or other words
pub data Line : Type 0 where
  -- the names of settings, input, output and prices, and the number of workers
  replay : List ℕ → List ℕ → List ℕ → List ℕ → ℕ → Line
  -- the name of the prices
  check : List ℕ → Line
  -- what the scene is drawn from, how many aircraft, for how many seconds, how many late of a hundred plots, and the name of the output
  scene : ℕ → ℕ → ℕ → ℕ → List ℕ → Line
  -- the same without an output, and the number of workers
  exercise : ℕ → ℕ → ℕ → ℕ → ℕ → Line
  other : Line

-- a name isn't empty and doesn't begin with two dashes
abbrev pub is_name : List ℕ → Bool
is_name word = not (length word == 0) && not (starts_with nat_eq word (codes "--"))

-- neither a sign nor a zero that more octets follow stands first
pub record IsPlain (word : List ℕ) : Type 0 where
  pub unsigned : get_or word 0 0 ≢ 43
  pub short : get_or word 0 0 ≡ 48 → length word ≡ 1

-- the number from the first to the last that a word writes in decimal digits, if it writes one
abbrev pub number_in : ℕ → ℕ → List ℕ → Option ℕ
number_in first last word =
    if bytes_eq word (decimal (digits_value 10 word)) && not (nat_lt (digits_value 10 word) first) && not (nat_lt last (digits_value 10 word)) then Some (digits_value 10 word) else None

-- so many workers may share a command's work
pub record IsWish (workers : ℕ) : Type 0 where
  pub some : 1 ≤ workers
  pub few : workers ≤ 16

-- what the word that tells the workers begins with
abbrev pub workers_word : List ℕ
workers_word = codes "--workers="

-- how many workers a word asks for: from 1 to 16
abbrev pub workers_in : List ℕ → Option ℕ
workers_in word = if starts_with nat_eq word workers_word then number_in 1 16 (drop (length workers_word) word) else None

-- four names, for so many workers
abbrev pub replay_with : List ℕ → List ℕ → List ℕ → List ℕ → ℕ → Line
replay_with settings input output prices workers = if is_name settings && is_name input && is_name output && is_name prices then replay settings input output prices workers else other

-- the seed, the aircraft, the seconds and the late plots of a scene
abbrev pub SceneNumbers : Type 0
SceneNumbers = ℕ × ℕ × ℕ × ℕ

abbrev pub all_four : Option ℕ → Option ℕ → Option ℕ → Option ℕ → Option SceneNumbers
all_four (Some seed) (Some aircraft) (Some seconds) (Some late) = Some (seed, aircraft, seconds, late)
all_four _ _ _ _ = None

-- those that four words write, where each lies in its range
abbrev pub scene_numbers : List ℕ → List ℕ → List ℕ → List ℕ → Option SceneNumbers
scene_numbers seed aircraft seconds late = all_four (number_in 0 (2 ^ 64 - 1) seed) (number_in 1 2000 aircraft) (number_in 1 3600 seconds) (number_in 0 100 late)

-- with an output
abbrev pub scene_with : Option SceneNumbers → List ℕ → Line
scene_with (Some (seed, aircraft, seconds, late)) output = scene seed aircraft seconds late output
scene_with None output = other

-- .. that is a name
abbrev pub named_scene : Option SceneNumbers → List ℕ → Line
named_scene numbers output = if is_name output then scene_with numbers output else other

-- for so many workers
abbrev pub exercise_with : Option SceneNumbers → ℕ → Line
exercise_with (Some (seed, aircraft, seconds, late)) workers = exercise seed aircraft seconds late workers
exercise_with None workers = other

-- `replay` and four names, or `exercise` and four numbers, where it is told how many workers share the work
abbrev pub work_line : List ℕ → List ℕ → List ℕ → List ℕ → List ℕ → Option ℕ → Line
work_line command a b c d (Some workers) =
    if bytes_eq command (codes "replay") then replay_with a b c d workers else if bytes_eq command (codes "exercise") then exercise_with (scene_numbers a b c d) workers else other
work_line command a b c d None = other

-- `check` and a name; `replay` and four names, or `exercise` and four numbers, for one worker or with a word that tells how many; or `scene`, four numbers and a name
abbrev pub line_of : List (List ℕ) → Line
line_of (command ∷ prices ∷ []) = if bytes_eq command (codes "check") && is_name prices then check prices else other
line_of (command ∷ a ∷ b ∷ c ∷ d ∷ []) = work_line command a b c d (Some 1)
line_of (command ∷ a ∷ b ∷ c ∷ d ∷ last ∷ []) = if bytes_eq command (codes "scene") then named_scene (scene_numbers a b c d) last else work_line command a b c d (workers_in last)
line_of words = other

-- the line of a command
abbrev pub line_for : Command → Line
line_for (commands.Replay settings input output prices workers) = replay (string_bytes settings) (string_bytes input) (string_bytes output) (string_bytes prices) workers
line_for (commands.Check prices) = check (string_bytes prices)
line_for (commands.Scene seed aircraft seconds late output) = scene seed aircraft seconds late (string_bytes output)
line_for (commands.Exercise seed aircraft seconds late workers) = exercise seed aircraft seconds late workers

-- how many workers share a command's work
abbrev pub workers_of : Command → ℕ
workers_of (commands.Replay settings input output prices workers) = workers
workers_of (commands.Exercise seed aircraft seconds late workers) = workers
workers_of _ = 1

-- the command is that of the line; or the line is other words; or memory is wanting
abbrev pub ParsedAs : Line → Result Command WordsError → Type 0
ParsedAs line (Ok command) = line ≡ line_for command
ParsedAs line (Err errors.Usage) = line ≡ other
ParsedAs line (Err errors.NoMemory) = ⊤

abbrev pub Parsed : List (List ℕ) → Result Command WordsError → Type 0
Parsed words result = ParsedAs (line_of words) result

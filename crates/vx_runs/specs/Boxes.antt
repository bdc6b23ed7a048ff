-- The boxes that a caller hands in, and those that a command asks for: the first one with the name, or every probe.
use Rattle.std.specs.Prelude.{ℕ, List, [], ◌∷◌, ◌++◌, map, find, if◌then◌else◌, codes, Option, Some, None, option_map, unwrap_or}
use Rattle.std.specs.Str.{bytes_eq}
use Rattle.vx_probe.specs.Times.{Times}
use Rattle.vx_probe.specs.Watch.{Watch, report_of}

pub record TimingBox : Type 0 where
  pub name : List ℕ
  pub times : Times

pub record ProbeBox : Type 0 where
  pub name : List ℕ
  pub watch : Watch

pub record Boxes : Type 0 where
  pub probes : List ProbeBox
  pub timings : List TimingBox

-- the boxes by what each tells: its name, and what it watches or which times it gives

abbrev pub probe_boxes : {P : Type 0} → (called : P → List ℕ) → (watch : P → Watch) → List P → List ProbeBox
probe_boxes called watch probes = map (λ b. record { name = called b; watch = watch b }) probes

abbrev pub timing_boxes : {T : Type 0} → (named : T → List ℕ) → (times : T → Times) → List T → List TimingBox
timing_boxes named times timings = map (λ b. record { name = named b; times = times b }) timings

abbrev pub boxes_of : {P T : Type 0} → (called : P → List ℕ) → (watch : P → Watch) → (named : T → List ℕ) → (times : T → Times) → List P → List T → Boxes
boxes_of called watch named times probes timings = record { probes = probe_boxes called watch probes; timings = timing_boxes named times timings }

-- those of a run
pub record Chosen : Type 0 where
  pub times : Times
  pub watches : List Watch

abbrev pub timing_named : List ℕ → List TimingBox → Option Times
timing_named name boxes = option_map (λ box. box.times) (find (λ box. bytes_eq box.name name) boxes)

abbrev pub probe_named : List ℕ → List ProbeBox → Option Watch
probe_named name boxes = option_map (λ box. box.watch) (find (λ box. bytes_eq box.name name) boxes)

-- no probe where none is asked for, by `all` every one in the order of the list, and else the first one with the name
abbrev pub probes_named : Option (List ℕ) → List ProbeBox → Option (List Watch)
probes_named None boxes = Some []
probes_named (Some name) boxes = if bytes_eq name (codes "all") then Some (map (λ box. box.watch) boxes) else option_map (λ watch. watch ∷ []) (probe_named name boxes)

abbrev pub chosen_of : Option Times → Option (List Watch) → Option Chosen
chosen_of None watches = None
chosen_of (Some times) None = None
chosen_of (Some times) (Some watches) = Some (record { times = times; watches = watches })

-- the boxes that are asked for, where they are there
abbrev pub chosen : List ℕ → Option (List ℕ) → Boxes → Option Chosen
chosen timing probe boxes = chosen_of (timing_named timing boxes.timings) (probes_named probe boxes.probes)

abbrev pub unknown_of : Option Times → (timing : List ℕ) → (probe : Option (List ℕ)) → List ℕ
unknown_of None timing probe = timing
unknown_of (Some times) timing probe = unwrap_or probe []

-- where some are not there, the name that none has, that of the timing first
abbrev pub unknown_name : List ℕ → Option (List ℕ) → Boxes → List ℕ
unknown_name timing probe boxes = unknown_of (timing_named timing boxes.timings) timing probe

-- the line of a probe's report
abbrev pub report_line : Watch → List ℕ
report_line watch = report_of watch ++ 10 ∷ []

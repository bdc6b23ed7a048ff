-- The layouts so far have their maps.
use Rattle.std.proofs.Common.{take}
use Rattle.vx_compiled.specs.Compiled.{AreMapsOf}
use Rattle.vx_compile.proofs.words.maps_of.Given as goal

abbrev pub invariant-loop-layout : goal.invariant-loop-layout
invariant-loop-layout l = AreMapsOf l.fn.machine (take l.layout-index l.fn.layouts) l.maps

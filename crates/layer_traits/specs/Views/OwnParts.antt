-- What a part of a layer of calls reports of its private state.
use Rattle.layer_traits.specs.{Layers.BufferLaw.Buffering, Threads.Places.Threads}

-- its threads
abbrev pub threads_in : Buffering → Threads
threads_in local = local.cv.lock.sleep.threads

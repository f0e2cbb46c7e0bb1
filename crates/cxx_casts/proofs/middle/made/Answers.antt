use Rattle.cxx_casts.proofs.Between.{more_objects_aimed, more_pointers_aimed, object_aimed, pointer_aimed}
use Rattle.cxx_casts.proofs.middle.made.Goals as goal

pub returns-in-Pointers : goal.returns-in-Pointers
returns-in-Pointers c = pointer_aimed c.args.graph.now c.args.types.now c.pointer_with_words.new.types c.args.aims c.in-Pointers.one c.in-Pointers.two c.pointer_with_words.result c.some_made.result c.in-Pointers.is c.requires.fitted c.requires.below c.pointer_with_words.ensures c.some_made.ensures

pub returns-in-Objects : goal.returns-in-Objects
returns-in-Objects c = object_aimed c.args.graph.now c.args.types.now c.reference_with_words.new.types c.args.aims c.in-Objects.one c.in-Objects.two c.reference_with_words.result c.some_made-in-Objects.result c.in-Objects.is c.requires.fitted c.requires.below c.reference_with_words.ensures c.some_made-in-Objects.ensures

pub returns-in-MorePointers : goal.returns-in-MorePointers
returns-in-MorePointers c = more_pointers_aimed c.args.graph.now c.args.types.now c.pointer_with_added.new.types c.args.aims c.in-MorePointers.one c.in-MorePointers.two c.pointer_with_added.result c.some_made-in-MorePointers.result c.in-MorePointers.is c.requires.fitted c.requires.below c.pointer_with_added.ensures c.some_made-in-MorePointers.ensures

pub returns-in-MoreObjects : goal.returns-in-MoreObjects
returns-in-MoreObjects c = more_objects_aimed c.args.graph.now c.args.types.now c.reference_with_added.new.types c.args.aims c.in-MoreObjects.one c.in-MoreObjects.two c.reference_with_added.result c.some_made-in-MoreObjects.result c.in-MoreObjects.is c.requires.fitted c.requires.below c.reference_with_added.ensures c.some_made-in-MoreObjects.ensures

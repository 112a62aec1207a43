use Rattle.ei_request.proofs.event.input_of.Goals as goal

pub returns-in-Pointer : goal.returns-in-Pointer
returns-in-Pointer c = rw c.in-Pointer.is (c.pointer_input-input.ensures c.in-Pointer.target)

pub returns-in-PointerAbsolute : goal.returns-in-PointerAbsolute
returns-in-PointerAbsolute c = rw c.in-PointerAbsolute.is (c.pointer_absolute_input-input.ensures c.in-PointerAbsolute.target)

pub returns-in-Scroll : goal.returns-in-Scroll
returns-in-Scroll c = rw c.in-Scroll.is (c.scroll_input-input.ensures c.in-Scroll.target)

pub returns-in-Button : goal.returns-in-Button
returns-in-Button c = rw c.in-Button.is (c.button_input-input.ensures c.in-Button.target)

pub returns-in-Keyboard : goal.returns-in-Keyboard
returns-in-Keyboard c = rw c.in-Keyboard.is (c.keyboard_input-input.ensures c.in-Keyboard.target)

pub returns-in-Touchscreen : goal.returns-in-Touchscreen
returns-in-Touchscreen c = rw c.in-Touchscreen.is (c.touchscreen_input-input.ensures c.in-Touchscreen.target)

pub returns-in-Text : goal.returns-in-Text
returns-in-Text c = rw c.in-Text.is (c.text_input-input.ensures c.in-Text.target)

pub returns-in-Gesture : goal.returns-in-Gesture
returns-in-Gesture c = rw c.in-Gesture.is (c.gesture_input-input.ensures c.in-Gesture.target)
